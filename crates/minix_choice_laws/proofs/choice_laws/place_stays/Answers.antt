use Rattle.minix_choice_laws.proofs.Stay.{place_stays_law}
use Rattle.minix_choice_laws.proofs.choice_laws.place_stays.Goals as goal

pub returns : goal.returns
returns c = place_stays_law
