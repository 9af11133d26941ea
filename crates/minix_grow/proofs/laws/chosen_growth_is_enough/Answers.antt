use Rattle.minix_grow.proofs.MissingLemmas.{growth_law}
use Rattle.minix_grow.proofs.laws.chosen_growth_is_enough.Goals as goal

pub returns : goal.returns
returns c = growth_law
