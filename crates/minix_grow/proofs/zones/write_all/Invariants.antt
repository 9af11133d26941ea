use Rattle.std.proofs.Common.{◌≤◌, length}
use Rattle.disk_trait.specs.Moments.{IsTold}
use Rattle.minix_layout.specs.View.{kind_view}
use Rattle.minix_steps.specs.Steps.{Steps}
use Rattle.minix_zones.specs.Volume.{past_of, faults_of}
use Rattle.minix_grow.specs.Others.{ChangesZonesNow}
use Rattle.minix_grow.specs.Zones.{AreMarked, AreWritten, WritesZonesAlone}
use Rattle.minix_grow.proofs.zones.write_all.Given as goal

abbrev pub invariant-loop-level : goal.invariant-loop-level
invariant-loop-level g l = record {
  steps : Steps l.fn.volume l.volume;
  written : IsTold (past_of l.fn.volume) → AreWritten (kind_view l.fn.volume.layout.kind) l.volume l.block l.growth l.level;
  marked : IsTold (past_of l.fn.volume) → AreMarked l.fn.volume l.growth (length l.growth) → AreMarked l.volume l.growth (length l.growth);
  only : IsTold (past_of l.fn.volume) → ChangesZonesNow l.fn.volume l.volume l.growth;
  others : WritesZonesAlone l.fn.volume l.volume l.growth;
  later : faults_of l.fn.volume ≤ faults_of l.volume;
}
