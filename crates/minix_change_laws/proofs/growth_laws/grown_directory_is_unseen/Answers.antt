use Rattle.minix_change_laws.proofs.Chain.{grows_law}
use Rattle.minix_change_laws.proofs.growth_laws.grown_directory_is_unseen.Goals as goal

pub returns : goal.returns
returns c = grows_law
