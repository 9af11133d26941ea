use Rattle.minix_layout.specs.View.{inode_view}
use Rattle.minix_remove.proofs.ReleaseLemmas.{lowered_unseen}
use Rattle.minix_remove.proofs.release.lower_links.Goals as goal

pub returns-clause-unseen : goal.returns-clause-unseen
returns-clause-unseen g c =
    lowered_unseen c.args.volume.now c.turn_links.new.volume c.args.number (inode_view c.args.inode.now) c.turn_links.result
    c.requires.some c.requires.there c.requires.fits c.requires.may c.requires.links c.turn_links.ensures.turns
