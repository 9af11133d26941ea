use Rattle.minix_choice_laws.proofs.Growth.{free_growth_law}
use Rattle.minix_choice_laws.proofs.choice_laws.growth_is_free.Goals as goal

pub returns : goal.returns
returns c = free_growth_law
