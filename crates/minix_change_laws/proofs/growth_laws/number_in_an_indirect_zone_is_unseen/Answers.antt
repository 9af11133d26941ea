use Rattle.minix_change_laws.proofs.Changes.{number_law}
use Rattle.minix_change_laws.proofs.growth_laws.number_in_an_indirect_zone_is_unseen.Goals as goal

pub returns : goal.returns
returns c = number_law
