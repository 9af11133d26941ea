use Rattle.map_plan.proofs.SectionLemmas.{section_plan_law}
use Rattle.map_plan.proofs.laws.a_section_is_planned.Goals as goal

pub returns : goal.returns
returns c = section_plan_law
