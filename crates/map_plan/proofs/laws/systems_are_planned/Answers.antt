use Rattle.map_plan.proofs.DeviceLemmas.{system_plan_law}
use Rattle.map_plan.proofs.laws.systems_are_planned.Goals as goal

pub returns : goal.returns
returns c = system_plan_law
