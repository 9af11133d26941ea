use Rattle.minix_layout.specs.View.{kind_view, inode_view}
use Rattle.minix_zones.specs.declared.zone_fault.ZoneFault.TheVariants.{Device}
use Rattle.minix_turns.proofs.FieldLemmas.{fits_top}
use Rattle.minix_turns.proofs.InodeLemmas.{top_unseen}
use Rattle.minix_turns.proofs.inode.turn_pointer.Goals as goal

pub turn_inode-requires-clause-fits : goal.turn_inode-requires-clause-fits
turn_inode-requires-clause-fits g c = fits_top (kind_view c.args.volume.now.layout.kind) (inode_view c.args.inode.now) c.args.top c.args.zone c.args.size c.requires.fits c.requires.top c.ranges.size.fits

pub returns-clause-unseen : goal.returns-clause-unseen
returns-clause-unseen g c more =
    top_unseen c.args.volume.now c.turn_inode.new.volume c.args.number (inode_view c.args.inode.now) Device c.turn_inode.result c.requires.fits c.args.top c.args.zone c.args.size more c.requires.top c.ranges.size.fits c.turn_inode.ensures.turns
