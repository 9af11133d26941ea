use Rattle.minix_layout.specs.View.{kind_view, inode_view}
use Rattle.minix_zones.specs.declared.zone_fault.ZoneFault.TheVariants.{Device}
use Rattle.minix_turns.proofs.FieldLemmas.{fits_size}
use Rattle.minix_turns.proofs.InodeLemmas.{size_unseen}
use Rattle.minix_turns.proofs.inode.turn_size.Goals as goal

pub turn_inode-requires-clause-fits : goal.turn_inode-requires-clause-fits
turn_inode-requires-clause-fits g c = fits_size (kind_view c.args.volume.now.layout.kind) (inode_view c.args.inode.now) c.args.size c.requires.fits c.ranges.size.fits

pub returns-clause-unseen : goal.returns-clause-unseen
returns-clause-unseen g c =
    size_unseen c.args.volume.now c.turn_inode.new.volume c.args.number (inode_view c.args.inode.now) Device c.turn_inode.result c.requires.fits c.args.size c.ranges.size.fits c.turn_inode.ensures.turns
