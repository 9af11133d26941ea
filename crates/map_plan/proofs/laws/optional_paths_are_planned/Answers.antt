use Rattle.map_plan.proofs.FileLemmas.{optional_plan_law}
use Rattle.map_plan.proofs.laws.optional_paths_are_planned.Goals as goal

pub returns : goal.returns
returns c = optional_plan_law
