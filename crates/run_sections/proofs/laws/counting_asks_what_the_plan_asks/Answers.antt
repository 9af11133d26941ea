-- The checks of all sectors, one after the other.
use Rattle.run_sections.proofs.CountLemmas.{count_law}
use Rattle.run_sections.proofs.laws.counting_asks_what_the_plan_asks.Goals as goal

pub returns : goal.returns
returns c = count_law
