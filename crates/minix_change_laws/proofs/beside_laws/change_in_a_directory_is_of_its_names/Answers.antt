use Rattle.minix_change_laws.proofs.Change.{change_law}
use Rattle.minix_change_laws.proofs.beside_laws.change_in_a_directory_is_of_its_names.Goals as goal

pub returns : goal.returns
returns c = change_law
