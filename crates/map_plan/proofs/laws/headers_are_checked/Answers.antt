use Rattle.map_plan.proofs.StartLemmas.{header_law}
use Rattle.map_plan.proofs.laws.headers_are_checked.Goals as goal

pub returns : goal.returns
returns c = header_law
