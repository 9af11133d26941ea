use Rattle.disk_trait.proofs.CallLemmas.{range_flushed}
use Rattle.minix_format.proofs.volume.write_volume.Goals as goal

pub returns-clause-writes : goal.returns-clause-writes
returns-clause-writes g c = range_flushed g.D.Disks _ _ _ _ _ _ _ c.in_ok-write_each.ensures.writes c.flush.ensures.flushes
