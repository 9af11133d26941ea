use Rattle.minix_zones.proofs.StopLemmas.{same_stop}
use Rattle.minix_zones.proofs.TurnLemmas.{per_some}
use Rattle.minix_zones.proofs.laws.no_two_stops_have_one_pointer.Goals as goal

pub returns : goal.returns
returns c kind stop other is also same = same_stop kind stop other (per_some kind) is also same
