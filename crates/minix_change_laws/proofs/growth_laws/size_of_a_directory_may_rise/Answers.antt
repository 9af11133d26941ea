use Rattle.minix_change_laws.proofs.Changes.{size_change_law}
use Rattle.minix_change_laws.proofs.growth_laws.size_of_a_directory_may_rise.Goals as goal

pub returns : goal.returns
returns c = size_change_law
