use Rattle.minix_change_laws.proofs.Beside.{same_law}
use Rattle.minix_change_laws.proofs.beside_laws.what_stands_is_harmless.Goals as goal

pub returns : goal.returns
returns c = same_law
