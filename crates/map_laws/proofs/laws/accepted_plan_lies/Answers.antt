use Rattle.map_laws.proofs.AcceptedWhole.{accepted_lies_law}
use Rattle.map_laws.proofs.laws.accepted_plan_lies.Goals as goal

pub returns : goal.returns
returns c = accepted_lies_law
