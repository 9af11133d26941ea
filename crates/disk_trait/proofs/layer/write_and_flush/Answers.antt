use Rattle.disk_trait.proofs.CallLemmas.{writes_flushed}
use Rattle.disk_trait.proofs.layer.write_and_flush.Goals as goal

pub returns-clause-writes : goal.returns-clause-writes
returns-clause-writes g c = writes_flushed g.D.Disks _ _ _ _ _ _ _ c.in_ok-write.ensures.writes c.flush.ensures.flushes
