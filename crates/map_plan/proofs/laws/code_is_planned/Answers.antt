use Rattle.map_plan.proofs.StartLemmas.{code_plan_law}
use Rattle.map_plan.proofs.laws.code_is_planned.Goals as goal

pub returns : goal.returns
returns c = code_plan_law
