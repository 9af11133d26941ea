use Rattle.minix_change_laws.proofs.Beside.{write_law}
use Rattle.minix_change_laws.proofs.beside_laws.harmless_writes_join.Goals as goal

pub returns : goal.returns
returns c = write_law
