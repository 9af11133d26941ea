use Rattle.map_laws.proofs.Stays.{map_stays_law}
use Rattle.map_laws.proofs.laws.planned_map_stays.Goals as goal

pub returns : goal.returns
returns c = map_stays_law
