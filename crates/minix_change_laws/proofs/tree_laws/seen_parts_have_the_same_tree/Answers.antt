use Rattle.minix_change_laws.proofs.Tree.{sees_tree_law}
use Rattle.minix_change_laws.proofs.tree_laws.seen_parts_have_the_same_tree.Goals as goal

pub returns : goal.returns
returns c = sees_tree_law
