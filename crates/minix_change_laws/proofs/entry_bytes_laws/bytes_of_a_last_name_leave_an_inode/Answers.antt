use Rattle.minix_change_laws.proofs.Images.{remove_last_bytes_law}
use Rattle.minix_change_laws.proofs.entry_bytes_laws.bytes_of_a_last_name_leave_an_inode.Goals as goal

pub returns : goal.returns
returns c = remove_last_bytes_law
