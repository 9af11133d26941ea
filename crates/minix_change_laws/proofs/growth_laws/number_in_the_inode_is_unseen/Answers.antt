use Rattle.minix_change_laws.proofs.Changes.{top_law}
use Rattle.minix_change_laws.proofs.growth_laws.number_in_the_inode_is_unseen.Goals as goal

pub returns : goal.returns
returns c = top_law
