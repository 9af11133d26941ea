use Rattle.minix_change_laws.proofs.Tree.{has_names_law}
use Rattle.minix_change_laws.proofs.tree_laws.names_in_an_image.Goals as goal

pub returns : goal.returns
returns c = has_names_law
