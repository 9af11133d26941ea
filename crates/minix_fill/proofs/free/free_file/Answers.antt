use Rattle.std.proofs.Common.{◌≡◌, Err, rules}
use Rattle.minix_layout.specs.View.{inode_view}
use Rattle.minix_fill.specs.Freed.{IsOffFile, ZeroesInode, FreesFile}
use Rattle.minix_fill.proofs.ChangeLemmas.{changes_failed}
use Rattle.minix_fill.proofs.FileLemmas.{may_clear, frees_done}
use Rattle.minix_fill.proofs.free.free_file.Goals as goal

pub returns-in_err-zero_inode-clause-frees : goal.returns-in_err-zero_inode-clause-frees
returns-in_err-zero_inode-clause-frees g c =
    let old = c.args.volume.now in
    let fault = c.in_err-zero_inode.field-0.0 in
    let given : c.from_residual.result ≡ Err fault = search rules in
    rw given (changes_failed old c.zero_inode.new.volume (IsOffFile old c.args.number) (ZeroesInode c.args.number) (FreesFile c.args.number) fault c.in_err-zero_inode.ensures)

pub clear_file-requires-clause-unnamed : goal.clear_file-requires-clause-unnamed
clear_file-requires-clause-unnamed g c = c.in_ok-zero_inode.ensures.steps.unnamed c.args.number c.requires.unnamed

pub clear_file-requires-clause-may : goal.clear_file-requires-clause-may
clear_file-requires-clause-may g c =
    may_clear c.args.volume.now c.zero_inode.new.volume c.args.number (inode_view c.args.inode.now) c.requires.ready c.requires.may c.in_ok-zero_inode.ensures

pub returns-clause-frees : goal.returns-clause-frees
returns-clause-frees g c =
    frees_done c.args.volume.now c.zero_inode.new.volume c.args.number (inode_view c.args.inode.now) c.requires.ready c.requires.may c.in_ok-zero_inode.ensures
    c.clear_file.new.volume c.clear_file.result c.clear_file.ensures.clears
