use Rattle.minix_reclaim.proofs.ClearedLemmas.{reclaiming_law}
use Rattle.minix_reclaim.proofs.laws.freed_waste_keeps_names.Goals as goal

pub returns : goal.returns
returns c = reclaiming_law
