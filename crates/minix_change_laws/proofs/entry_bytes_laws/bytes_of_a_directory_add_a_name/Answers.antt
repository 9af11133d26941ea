use Rattle.minix_change_laws.proofs.Images.{enter_directory_bytes_law}
use Rattle.minix_change_laws.proofs.entry_bytes_laws.bytes_of_a_directory_add_a_name.Goals as goal

pub returns : goal.returns
returns c = enter_directory_bytes_law
