use Rattle.std.proofs.Common.{◌≡◌, Ok, Err, rules}
use Rattle.minix_layout.specs.View.{inode_view}
use Rattle.minix_fill.proofs.FileLemmas.{clears_failed, clears_mark, clears_flushed, flush_durable}
use Rattle.minix_fill.proofs.free.clear_file.Goals as goal

pub returns-in_err-clear_zones-clause-clears : goal.returns-in_err-clear_zones-clause-clears
returns-in_err-clear_zones-clause-clears g c =
    let fault = c.in_err-clear_zones.field-0.0 in
    let given : c.from_residual.result ≡ Err fault = search rules in
    rw given (clears_failed c.args.volume.now c.clear_zones.new.volume c.args.number (inode_view c.args.inode.now) c.requires.ready fault c.in_err-clear_zones.ensures)

pub returns-in_err-free_inode-clause-clears : goal.returns-in_err-free_inode-clause-clears
returns-in_err-free_inode-clause-clears g c =
    let fault = c.in_err-free_inode.field-0.0 in
    let given : c.from_residual-in_err-free_inode.result ≡ Err fault = search rules in
    rw given (clears_mark c.args.volume.now c.clear_zones.new.volume c.args.number (inode_view c.args.inode.now) c.requires.ready c.requires.there c.in_ok-clear_zones.ensures
    c.free_inode.new.volume (Err fault) c.in_err-free_inode.ensures.steps c.in_err-free_inode.ensures.writes c.in_err-free_inode.ensures.parts)

pub returns-clause-clears : goal.returns-clause-clears
returns-clause-clears g c =
    let old = c.args.volume.now in
    let inode = inode_view c.args.inode.now in
    clears_flushed old c.clear_zones.new.volume c.args.number inode c.requires.ready c.requires.there c.in_ok-clear_zones.ensures
    c.free_inode.new.volume c.settle.new.volume c.settle.result
    (clears_mark old c.clear_zones.new.volume c.args.number inode c.requires.ready c.requires.there c.in_ok-clear_zones.ensures
    c.free_inode.new.volume (Ok tt) c.in_ok-free_inode.ensures.steps c.in_ok-free_inode.ensures.writes c.in_ok-free_inode.ensures.parts)
    c.settle.ensures.steps c.settle.ensures.syncs

pub returns-clause-durable : goal.returns-clause-durable
returns-clause-durable g c = flush_durable c.free_inode.new.volume c.settle.new.volume c.settle.result c.settle.ensures.syncs
