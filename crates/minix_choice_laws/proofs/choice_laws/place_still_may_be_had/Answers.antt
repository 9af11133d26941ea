use Rattle.minix_choice_laws.proofs.Stay.{may_have_stays_law}
use Rattle.minix_choice_laws.proofs.choice_laws.place_still_may_be_had.Goals as goal

pub returns : goal.returns
returns c = may_have_stays_law
