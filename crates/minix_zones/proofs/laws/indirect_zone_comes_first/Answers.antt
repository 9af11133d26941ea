use Rattle.minix_zones.proofs.StopLemmas.{parent_before}
use Rattle.minix_zones.proofs.TurnLemmas.{per_some}
use Rattle.minix_zones.proofs.laws.indirect_zone_comes_first.Goals as goal

pub returns : goal.returns
returns c kind stop other index is also below = parent_before kind stop other index (per_some kind) is also below
