use Rattle.minix_create.proofs.MadePlaces.{seen_places_law}
use Rattle.minix_create.proofs.made_laws.unseen_change_keeps_places.Goals as goal

pub returns : goal.returns
returns c = seen_places_law
