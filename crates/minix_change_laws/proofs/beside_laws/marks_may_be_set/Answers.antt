use Rattle.minix_change_laws.proofs.Harmless.{set_bit_law}
use Rattle.minix_change_laws.proofs.beside_laws.marks_may_be_set.Goals as goal

pub returns : goal.returns
returns c = set_bit_law
