use Rattle.run_sections.proofs.SectorLemmas.{file_slots_law}
use Rattle.run_sections.proofs.laws.slots_are_the_plans.Goals as goal

pub returns : goal.returns
returns c = file_slots_law
