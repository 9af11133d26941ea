use Rattle.map_laws.proofs.Planned.{planned_law}
use Rattle.map_laws.proofs.laws.planned_map_boots_as_meant.Goals as goal

pub returns : goal.returns
returns c = planned_law
