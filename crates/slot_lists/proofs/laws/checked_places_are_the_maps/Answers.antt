use Rattle.slot_lists.proofs.OwnPlaces.{own_places_law}
use Rattle.slot_lists.proofs.laws.checked_places_are_the_maps.Goals as goal

pub returns : goal.returns
returns c = own_places_law
