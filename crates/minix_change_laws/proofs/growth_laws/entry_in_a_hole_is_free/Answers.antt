use Rattle.minix_change_laws.proofs.Holes.{hole_law}
use Rattle.minix_change_laws.proofs.growth_laws.entry_in_a_hole_is_free.Goals as goal

pub returns : goal.returns
returns c = hole_law
