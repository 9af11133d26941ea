use Rattle.minix_layout.specs.View.{kind_view, inode_view}
use Rattle.minix_zones.specs.declared.zone_fault.ZoneFault.TheVariants.{Device}
use Rattle.minix_turns.proofs.FieldLemmas.{fits_links}
use Rattle.minix_turns.proofs.InodeLemmas.{links_unseen}
use Rattle.minix_turns.proofs.inode.turn_links.Goals as goal

pub turn_inode-requires-clause-fits : goal.turn_inode-requires-clause-fits
turn_inode-requires-clause-fits g c = fits_links (kind_view c.args.volume.now.layout.kind) (inode_view c.args.inode.now) c.args.links c.requires.fits c.requires.links

pub returns-clause-unseen : goal.returns-clause-unseen
returns-clause-unseen g c =
    links_unseen c.args.volume.now c.turn_inode.new.volume c.args.number (inode_view c.args.inode.now) Device c.turn_inode.result c.requires.fits c.args.links c.requires.links c.turn_inode.ensures.turns
