use Rattle.minix_change_laws.proofs.Tree.{tree_before_law}
use Rattle.minix_change_laws.proofs.tree_laws.tree_before_what_is_unseen.Goals as goal

pub returns : goal.returns
returns c = tree_before_law
