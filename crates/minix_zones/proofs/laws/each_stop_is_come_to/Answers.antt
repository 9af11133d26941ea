use Rattle.minix_zones.proofs.StopLemmas.{contains_stop}
use Rattle.minix_zones.proofs.laws.each_stop_is_come_to.Goals as goal

pub returns : goal.returns
returns c kind stop = contains_stop kind stop
