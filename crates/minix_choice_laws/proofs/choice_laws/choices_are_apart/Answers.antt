use Rattle.minix_choice_laws.proofs.Apart.{apart_law}
use Rattle.minix_choice_laws.proofs.choice_laws.choices_are_apart.Goals as goal

pub returns : goal.returns
returns c = apart_law
