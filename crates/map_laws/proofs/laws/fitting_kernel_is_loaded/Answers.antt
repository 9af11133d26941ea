use Rattle.map_laws.proofs.Fit.{fit_law}
use Rattle.map_laws.proofs.laws.fitting_kernel_is_loaded.Goals as goal

pub returns : goal.returns
returns c = fit_law
