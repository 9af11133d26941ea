use Rattle.map_laws.proofs.Laid.{accepted_lays_law}
use Rattle.map_laws.proofs.laws.accepted_plan_has_lays.Goals as goal

pub returns : goal.returns
returns c = accepted_lays_law
