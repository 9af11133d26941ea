use Rattle.minix_choice_laws.proofs.Filled.{fit_filled_law}
use Rattle.minix_choice_laws.proofs.fill_laws.filled_inode_is_fit.Goals as goal

pub returns : goal.returns
returns c = fit_filled_law
