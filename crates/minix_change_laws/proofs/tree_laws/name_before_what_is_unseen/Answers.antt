use Rattle.minix_change_laws.proofs.Tree.{with_before_law}
use Rattle.minix_change_laws.proofs.tree_laws.name_before_what_is_unseen.Goals as goal

pub returns : goal.returns
returns c = with_before_law
