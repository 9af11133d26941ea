use Rattle.disk_trait.proofs.CallLemmas.{flushes_made}
use Rattle.disk_trait.proofs.layer.flush.Goals as goal

pub returns-clause-flushes : goal.returns-clause-flushes
returns-clause-flushes g c = flushes_made g.D.Disks _ _ _ c.flush.ensures.ok c.flush.ensures.failed record {
  later = c.flush.ensures.cause.later;
  size = c.flush.ensures.size;
  count = c.flush.ensures.count;
  geometry = c.flush.ensures.geometry;
}
