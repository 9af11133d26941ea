use Rattle.minix_change_laws.proofs.Only.{fit_law}
use Rattle.minix_change_laws.proofs.entry_laws.named_inode_is_fit.Goals as goal

pub returns : goal.returns
returns c = fit_law
