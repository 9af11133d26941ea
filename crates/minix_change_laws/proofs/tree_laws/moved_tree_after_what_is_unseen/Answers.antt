use Rattle.minix_change_laws.proofs.Tree.{moved_tree_after_law}
use Rattle.minix_change_laws.proofs.tree_laws.moved_tree_after_what_is_unseen.Goals as goal

pub returns : goal.returns
returns c = moved_tree_after_law
