use Rattle.std.proofs.Common.{◌≡◌, Ok, Err, rules}
use Rattle.minix_layout.specs.View.{inode_view}
use Rattle.minix_fill.specs.Freed.{IsOffFile, ZeroesInode}
use Rattle.minix_fill.proofs.ChangeLemmas.{changes_failed}
use Rattle.minix_fill.proofs.FileLemmas.{zeroes_step, zeroes_done}
use Rattle.minix_fill.proofs.free.zero_inode.Goals as goal

pub returns-in_err-write_inode : goal.returns-in_err-write_inode
returns-in_err-write_inode g c =
    let old = c.args.volume.now in
    let fault = c.in_err-write_inode.field-0.0 in
    let given : c.from_residual.result ≡ Err fault = search rules in
    rw given (changes_failed old c.write_inode.new.volume (IsOffFile old c.args.number) (ZeroesInode c.args.number) (ZeroesInode c.args.number) fault
    (zeroes_step old c.write_inode.new.volume c.args.number (inode_view c.no_inode.result) c.no_inode.ensures (Err fault) c.in_err-write_inode.ensures.steps c.in_err-write_inode.ensures.writes c.in_err-write_inode.ensures.parts))

pub returns : goal.returns
returns g c =
    let old = c.args.volume.now in
    zeroes_done old c.write_inode.new.volume c.args.number c.settle.new.volume c.requires.ready c.settle.result
    (zeroes_step old c.write_inode.new.volume c.args.number (inode_view c.no_inode.result) c.no_inode.ensures (Ok tt) c.in_ok-write_inode.ensures.steps c.in_ok-write_inode.ensures.writes c.in_ok-write_inode.ensures.parts)
    c.settle.ensures.steps c.settle.ensures.syncs
