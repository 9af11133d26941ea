use Rattle.minix_change_laws.proofs.Extends.{extends_law}
use Rattle.minix_change_laws.proofs.growth_laws.extended_directory_is_unseen.Goals as goal

pub returns : goal.returns
returns c = extends_law
