use Rattle.minix_change_laws.proofs.Tree.{moved_names_law}
use Rattle.minix_change_laws.proofs.tree_laws.moved_names_are_of_the_tree.Goals as goal

pub returns : goal.returns
returns c = moved_names_law
