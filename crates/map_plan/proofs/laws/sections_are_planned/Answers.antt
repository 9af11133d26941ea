use Rattle.map_plan.proofs.SectionLemmas.{section_plans_law}
use Rattle.map_plan.proofs.laws.sections_are_planned.Goals as goal

pub returns : goal.returns
returns c = section_plans_law
