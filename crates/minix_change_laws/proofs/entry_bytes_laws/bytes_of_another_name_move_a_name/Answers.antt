use Rattle.minix_change_laws.proofs.Images.{rename_bytes_law}
use Rattle.minix_change_laws.proofs.entry_bytes_laws.bytes_of_another_name_move_a_name.Goals as goal

pub returns : goal.returns
returns c = rename_bytes_law
