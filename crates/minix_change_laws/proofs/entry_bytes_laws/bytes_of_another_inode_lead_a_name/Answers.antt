use Rattle.minix_change_laws.proofs.Images.{redirect_bytes_law}
use Rattle.minix_change_laws.proofs.entry_bytes_laws.bytes_of_another_inode_lead_a_name.Goals as goal

pub returns : goal.returns
returns c = redirect_bytes_law
