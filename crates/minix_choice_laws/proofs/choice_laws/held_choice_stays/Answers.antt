use Rattle.minix_choice_laws.proofs.Apart.{held_stays_law}
use Rattle.minix_choice_laws.proofs.choice_laws.held_choice_stays.Goals as goal

pub returns : goal.returns
returns c = held_stays_law
