use Rattle.minix_change_laws.proofs.Beside.{named_law}
use Rattle.minix_change_laws.proofs.beside_laws.harmless_bytes_keep_what_is_named.Goals as goal

pub returns : goal.returns
returns c = named_law
