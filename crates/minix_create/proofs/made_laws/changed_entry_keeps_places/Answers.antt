use Rattle.minix_create.proofs.MadePlaces.{entry_places_law}
use Rattle.minix_create.proofs.made_laws.changed_entry_keeps_places.Goals as goal

pub returns : goal.returns
returns c = entry_places_law
