use Rattle.minix_choice_laws.proofs.Apart.{held_law}
use Rattle.minix_choice_laws.proofs.choice_laws.choice_is_held.Goals as goal

pub returns : goal.returns
returns c = held_law
