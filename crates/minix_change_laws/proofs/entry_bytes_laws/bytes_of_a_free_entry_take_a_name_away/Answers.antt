use Rattle.minix_change_laws.proofs.Images.{remove_bytes_law}
use Rattle.minix_change_laws.proofs.entry_bytes_laws.bytes_of_a_free_entry_take_a_name_away.Goals as goal

pub returns : goal.returns
returns c = remove_bytes_law
