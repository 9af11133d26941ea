use Rattle.map_laws.proofs.Laid.{lays_law}
use Rattle.map_laws.proofs.laws.map_that_lies_has_lays.Goals as goal

pub returns : goal.returns
returns c = lays_law
