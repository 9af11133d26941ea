use Rattle.minix_create.proofs.MadeOther.{other_growth_law}
use Rattle.minix_create.proofs.made_laws.growth_of_another_is_unused.Goals as goal

pub returns : goal.returns
returns c = other_growth_law
