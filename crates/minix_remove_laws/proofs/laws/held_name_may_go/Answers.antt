use Rattle.minix_remove_laws.proofs.Held.{held_law}
use Rattle.minix_remove_laws.proofs.laws.held_name_may_go.Goals as goal

pub returns : goal.returns
returns c = held_law
