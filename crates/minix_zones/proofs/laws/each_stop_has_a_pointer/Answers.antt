use Rattle.minix_zones.proofs.PointerLemmas.{stop_has_pointer}
use Rattle.minix_zones.proofs.TurnLemmas.{per_some}
use Rattle.minix_zones.proofs.laws.each_stop_has_a_pointer.Goals as goal

pub returns : goal.returns
returns c kind stop is = stop_has_pointer kind stop (per_some kind) is
