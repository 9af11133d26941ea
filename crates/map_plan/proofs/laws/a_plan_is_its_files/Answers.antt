use Rattle.map_plan.proofs.WholeLemmas.{plan_law}
use Rattle.map_plan.proofs.laws.a_plan_is_its_files.Goals as goal

pub returns : goal.returns
returns c = plan_law
