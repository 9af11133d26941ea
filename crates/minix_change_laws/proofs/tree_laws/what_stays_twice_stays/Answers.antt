use Rattle.minix_change_laws.proofs.Tree.{keeps_join_law}
use Rattle.minix_change_laws.proofs.tree_laws.what_stays_twice_stays.Goals as goal

pub returns : goal.returns
returns c = keeps_join_law
