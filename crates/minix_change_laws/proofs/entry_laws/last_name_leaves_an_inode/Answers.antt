use Rattle.minix_change_laws.proofs.Names.{remove_last_law}
use Rattle.minix_change_laws.proofs.entry_laws.last_name_leaves_an_inode.Goals as goal

pub returns : goal.returns
returns c = remove_last_law
