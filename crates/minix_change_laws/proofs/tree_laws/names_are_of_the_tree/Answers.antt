use Rattle.minix_change_laws.proofs.Tree.{tree_names_law}
use Rattle.minix_change_laws.proofs.tree_laws.names_are_of_the_tree.Goals as goal

pub returns : goal.returns
returns c = tree_names_law
