use Rattle.minix_change_laws.proofs.Tree.{with_after_law}
use Rattle.minix_change_laws.proofs.tree_laws.name_after_what_is_unseen.Goals as goal

pub returns : goal.returns
returns c = with_after_law
