use Rattle.disk_trait.specs.Moments.{IsTold}
use Rattle.minix_grow.specs.Others.{ChangesZonesNow}
use Rattle.minix_grow.specs.Zones.{AreMarked, WritesZonesAlone}
use Rattle.minix_steps.specs.Steps.{Steps}
use Rattle.minix_zones.specs.Volume.{past_of, faults_of}
use Rattle.std.proofs.Common.{◌≤◌}
use Rattle.minix_grow.proofs.zones.mark_all.Given as goal

abbrev pub invariant-loop-zone : goal.invariant-loop-zone
invariant-loop-zone g l = record {
  steps : Steps l.fn.volume l.volume;
  marked : IsTold (past_of l.fn.volume) → AreMarked l.volume l.zones l.zone-index;
  only : IsTold (past_of l.fn.volume) → ChangesZonesNow l.fn.volume l.volume l.zones;
  others : WritesZonesAlone l.fn.volume l.volume l.zones;
  later : faults_of l.fn.volume ≤ faults_of l.volume;
}
