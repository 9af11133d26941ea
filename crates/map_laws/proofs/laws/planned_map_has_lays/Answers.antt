use Rattle.map_laws.proofs.Laid.{planned_lays_law}
use Rattle.map_laws.proofs.laws.planned_map_has_lays.Goals as goal

pub returns : goal.returns
returns c = planned_lays_law
