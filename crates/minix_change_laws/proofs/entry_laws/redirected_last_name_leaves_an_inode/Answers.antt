use Rattle.minix_change_laws.proofs.Names.{redirect_last_law}
use Rattle.minix_change_laws.proofs.entry_laws.redirected_last_name_leaves_an_inode.Goals as goal

pub returns : goal.returns
returns c = redirect_last_law
