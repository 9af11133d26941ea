use Rattle.minix_change_laws.proofs.Beside.{beside_law}
use Rattle.minix_change_laws.proofs.beside_laws.harmless_bytes_keep_names.Goals as goal

pub returns : goal.returns
returns c = beside_law
