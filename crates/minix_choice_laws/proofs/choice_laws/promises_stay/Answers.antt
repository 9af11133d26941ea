use Rattle.minix_choice_laws.proofs.Growth.{promises_law}
use Rattle.minix_choice_laws.proofs.choice_laws.promises_stay.Goals as goal

pub returns : goal.returns
returns c = promises_law
