use Rattle.disk_trait.proofs.MomentLemmas.{begun_made}
use Rattle.disk_trait.proofs.CallLemmas.{writes_made}
use Rattle.disk_trait.proofs.layer.write.Goals as goal

pub returns-clause-writes : goal.returns-clause-writes
returns-clause-writes g c = writes_made g.D.Disks _ _ _ _ _ _ c.told-from c.write.ensures.event c.write.ensures.ok record {
  later = c.write.ensures.cause.later;
  size = c.write.ensures.size;
  count = c.write.ensures.count;
  geometry = c.write.ensures.geometry;
}

pub returns-clause-begun : goal.returns-clause-begun
returns-clause-begun g c = begun_made _ _ _ _ _ c.write.ensures.event
