use Rattle.minix_grow.proofs.MissingLemmas.{missing_law}
use Rattle.minix_grow.proofs.laws.missing_zones_are_the_lowest.Goals as goal

pub returns : goal.returns
returns c = missing_law
