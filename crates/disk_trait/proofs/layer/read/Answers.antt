use Rattle.std.proofs.Common.{◌≡◌}
use Rattle.disk_trait.proofs.MomentLemmas.{on_ok, told_now}
use Rattle.disk_trait.proofs.CallLemmas.{reads_same}
use Rattle.disk_trait.proofs.layer.read.Goals as goal

pub returns-clause-bytes : goal.returns-clause-bytes
returns-clause-bytes g c =
    λ told. on_ok c.read.result _ _ c.read.ensures.bytes (λ is. told_now (g.D.Disks.past c.args.disks.now) (λ image. c.read.new.into ≡ image c.args.disk c.args.sector) is told)

pub returns-clause-reads : goal.returns-clause-reads
returns-clause-reads g c = reads_same g.D.Disks _ _ c.read.ensures.past record {
  later = c.read.ensures.cause.later;
  size = c.read.ensures.size;
  count = c.read.ensures.count;
  geometry = c.read.ensures.geometry;
}
