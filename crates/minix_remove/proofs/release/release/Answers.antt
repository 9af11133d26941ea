use Rattle.std.proofs.Common.{Ok}
use Rattle.minix_layout.specs.View.{inode_view}
use Rattle.minix_steps.proofs.ReadyLemmas.{quiet_ready}
use Rattle.minix_remove.proofs.ReleaseLemmas.{releases_lowered, is_unnamed, may_free, releases_freed}
use Rattle.minix_remove.proofs.release.release.Goals as goal

pub free_file-requires-clause-ready : goal.free_file-requires-clause-ready
free_file-requires-clause-ready g c = quiet_ready c.args.volume.now c.requires.quiet (λ told. (c.requires.may told).sound)

pub free_file-requires-clause-unnamed : goal.free_file-requires-clause-unnamed
free_file-requires-clause-unnamed g c =
    is_unnamed c.args.volume.now c.args.volume.now c.args.number (inode_view c.args.inode.now) (Ok tt)
    c.requires.some c.requires.there c.requires.fits c.requires.may c.if-inode-gt1.false c.requires.quiet

pub free_file-requires-clause-may : goal.free_file-requires-clause-may
free_file-requires-clause-may g c =
    may_free c.args.volume.now c.args.volume.now c.args.number (inode_view c.args.inode.now) (Ok tt)
    c.requires.some c.requires.there c.requires.fits c.requires.may c.if-inode-gt1.false c.requires.quiet

pub returns-then-inode-gt1-clause-releases : goal.returns-then-inode-gt1-clause-releases
returns-then-inode-gt1-clause-releases g c =
    releases_lowered c.args.volume.now c.lower_links.new.volume c.args.number (inode_view c.args.inode.now) c.lower_links.result
    c.requires.some c.requires.there c.requires.fits c.requires.may c.if-inode-gt1.true c.lower_links.ensures.turns

pub returns-else-inode-gt1-clause-releases : goal.returns-else-inode-gt1-clause-releases
returns-else-inode-gt1-clause-releases g c =
    releases_freed c.args.volume.now c.free_file.new.volume c.args.number (inode_view c.args.inode.now) c.free_file.result
    c.requires.some c.requires.there c.requires.fits c.requires.may c.if-inode-gt1.false c.requires.quiet c.free_file.ensures.frees
