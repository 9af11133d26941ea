use Rattle.minix_layout.specs.View.{inode_view}
use Rattle.minix_tree.specs.declared.tree_fault.TreeFault.TheVariants.{NotFound}
use Rattle.minix_remove.proofs.TargetLemmas.{gives_zone, gives_no_hole, gives_fault}
use Rattle.minix_remove.proofs.target.zone_with.Goals as goal

pub returns-in-Ok-Zone-clause-gives : goal.returns-in-Ok-Zone-clause-gives
returns-in-Ok-Zone-clause-gives g c =
    gives_zone c.args.volume.now (inode_view c.args.directory.now) c.args.place c.in-Ok-Zone.zone
    (rw (c.from.ensures, c.entries_per_block.ensures.value, c.layout.ensures.value, c.in-Ok-Zone.field-0-is) at c.in-Ok-Zone.ensures.zone)

pub returns-in-Ok-Hole-clause-gives : goal.returns-in-Ok-Hole-clause-gives
returns-in-Ok-Hole-clause-gives g c =
    gives_no_hole c.args.volume.now (inode_view c.args.directory.now) c.args.place (NotFound 0)
    (rw (c.from.ensures, c.entries_per_block.ensures.value, c.layout.ensures.value, c.in-Ok-Hole.field-0-is) at c.in-Ok-Hole.ensures.zone)

pub returns-in-Err-clause-gives : goal.returns-in-Err-clause-gives
returns-in-Err-clause-gives g c =
    gives_fault c.args.volume.now (inode_view c.args.directory.now) c.args.place c.in-Err.fault
    (rw (c.from.ensures, c.entries_per_block.ensures.value, c.layout.ensures.value) at c.in-Err.ensures.zone)
