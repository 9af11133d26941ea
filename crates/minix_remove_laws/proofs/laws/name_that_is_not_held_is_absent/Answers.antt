use Rattle.minix_remove_laws.proofs.Held.{absent_law}
use Rattle.minix_remove_laws.proofs.laws.name_that_is_not_held_is_absent.Goals as goal

pub returns : goal.returns
returns c = absent_law
