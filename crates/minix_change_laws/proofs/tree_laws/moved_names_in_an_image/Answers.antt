use Rattle.minix_change_laws.proofs.Tree.{has_moved_law}
use Rattle.minix_change_laws.proofs.tree_laws.moved_names_in_an_image.Goals as goal

pub returns : goal.returns
returns c = has_moved_law
