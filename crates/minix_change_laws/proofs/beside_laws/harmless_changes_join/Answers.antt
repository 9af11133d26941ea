use Rattle.minix_change_laws.proofs.Beside.{join_law}
use Rattle.minix_change_laws.proofs.beside_laws.harmless_changes_join.Goals as goal

pub returns : goal.returns
returns c = join_law
