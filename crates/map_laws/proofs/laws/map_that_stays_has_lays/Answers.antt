use Rattle.map_laws.proofs.Laid.{lays_stays_law}
use Rattle.map_laws.proofs.laws.map_that_stays_has_lays.Goals as goal

pub returns : goal.returns
returns c = lays_stays_law
