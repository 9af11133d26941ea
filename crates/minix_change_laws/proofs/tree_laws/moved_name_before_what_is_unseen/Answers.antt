use Rattle.minix_change_laws.proofs.Tree.{moved_before_law}
use Rattle.minix_change_laws.proofs.tree_laws.moved_name_before_what_is_unseen.Goals as goal

pub returns : goal.returns
returns c = moved_before_law
