use Rattle.map_laws.proofs.AcceptedWhole.{accepted_law}
use Rattle.map_laws.proofs.laws.accepted_plan_boots_as_meant.Goals as goal

pub returns : goal.returns
returns c = accepted_law
