use Rattle.map_plan.proofs.FileLemmas.{file_plan_law}
use Rattle.map_plan.proofs.laws.paths_are_planned.Goals as goal

pub returns : goal.returns
returns c = file_plan_law
