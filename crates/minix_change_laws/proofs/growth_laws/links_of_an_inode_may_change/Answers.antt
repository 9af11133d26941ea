use Rattle.minix_change_laws.proofs.Changes.{links_change_law}
use Rattle.minix_change_laws.proofs.growth_laws.links_of_an_inode_may_change.Goals as goal

pub returns : goal.returns
returns c = links_change_law
