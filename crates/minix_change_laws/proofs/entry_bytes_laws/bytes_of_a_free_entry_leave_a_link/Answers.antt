use Rattle.minix_change_laws.proofs.ReplaceBytes.{remove_lower_bytes_law}
use Rattle.minix_change_laws.proofs.entry_bytes_laws.bytes_of_a_free_entry_leave_a_link.Goals as goal

pub returns : goal.returns
returns c = remove_lower_bytes_law
