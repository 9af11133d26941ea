use Rattle.map_laws.proofs.Maximal.{compact_law}
use Rattle.map_laws.proofs.laws.compact_slots_are_apart.Goals as goal

pub returns : goal.returns
returns c = compact_law
