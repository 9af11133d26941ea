use Rattle.minix_laws.proofs.Pointers.{pointer_law}
use Rattle.minix_laws.proofs.laws.blocks_have_pointers_of_their_own.Goals as goal

pub returns : goal.returns
returns c = pointer_law
