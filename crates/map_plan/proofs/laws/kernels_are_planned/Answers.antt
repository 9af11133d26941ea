use Rattle.map_plan.proofs.FileLemmas.{kernel_plan_law}
use Rattle.map_plan.proofs.laws.kernels_are_planned.Goals as goal

pub returns : goal.returns
returns c = kernel_plan_law
