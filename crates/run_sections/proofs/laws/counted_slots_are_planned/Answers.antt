-- The slots of all sectors, one after the other.
use Rattle.run_sections.proofs.CountLemmas.{counted_law}
use Rattle.run_sections.proofs.laws.counted_slots_are_planned.Goals as goal

pub returns : goal.returns
returns c = counted_law
