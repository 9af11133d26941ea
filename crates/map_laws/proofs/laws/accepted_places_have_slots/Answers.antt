use Rattle.map_laws.proofs.Accepted.{places_law}
use Rattle.map_laws.proofs.laws.accepted_places_have_slots.Goals as goal

pub returns : goal.returns
returns c = places_law
