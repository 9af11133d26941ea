use Rattle.minix_choice_laws.proofs.Choose.{choice_law}
use Rattle.minix_choice_laws.proofs.choice_laws.choice_is_free.Goals as goal

pub returns : goal.returns
returns c = choice_law
