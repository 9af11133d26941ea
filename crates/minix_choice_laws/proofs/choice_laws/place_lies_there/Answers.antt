use Rattle.minix_choice_laws.proofs.Stay.{place_lies_law}
use Rattle.minix_choice_laws.proofs.choice_laws.place_lies_there.Goals as goal

pub returns : goal.returns
returns c = place_lies_law
