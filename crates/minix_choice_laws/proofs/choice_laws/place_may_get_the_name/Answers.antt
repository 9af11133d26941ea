use Rattle.minix_choice_laws.proofs.Place.{place_law}
use Rattle.minix_choice_laws.proofs.choice_laws.place_may_get_the_name.Goals as goal

pub returns : goal.returns
returns c = place_law
