use Rattle.minix_create.proofs.MadePlaces.{join_places_law}
use Rattle.minix_create.proofs.made_laws.kept_places_join.Goals as goal

pub returns : goal.returns
returns c = join_places_law
