use Rattle.std.proofs.Common.{◌≡◌, ◌≤◌, ◌<◌, suc}
use Rattle.disk_trait.specs.Moments.{IsTold}
use Rattle.minix_layout.specs.View.{kind_view, super_view, inode_view}
use Rattle.minix_steps.specs.Written.{parts_now}
use Rattle.minix_zones.specs.View.{IsInside, IsDataZone}
use Rattle.minix_zones.specs.Volume.{past_of, faults_of, SameVolume}
use Rattle.minix_grow.specs.Way.{depth_of, number_on_way}
use Rattle.minix_grow.proofs.way.lowest_on_way.Given as goal

-- the number of this level, and that of the level above
abbrev pub invariant-loop-level : goal.invariant-loop-level
invariant-loop-level g l = record {
  low : l.level ≤ depth_of (kind_view l.fn.volume.layout.kind) l.block;
  here : IsTold (past_of l.fn.volume) → number_on_way (super_view l.fn.volume.layout) (parts_now l.fn.volume) (inode_view l.node) l.block l.level ≡ l.number;
  inside : IsInside l.fn.volume.layout l.number;
  over : l.level < depth_of (kind_view l.fn.volume.layout.kind) l.block → IsTold (past_of l.fn.volume)
      → number_on_way (super_view l.fn.volume.layout) (parts_now l.fn.volume) (inode_view l.node) l.block (suc l.level) ≡ l.above;
  over_data : l.level < depth_of (kind_view l.fn.volume.layout.kind) l.block → IsDataZone l.fn.volume.layout l.above;
  none : depth_of (kind_view l.fn.volume.layout.kind) l.block ≤ l.level → l.above ≡ 0;
  later : faults_of l.fn.volume ≤ faults_of l.volume;
  same : SameVolume l.fn.volume l.volume;
}

abbrev pub decreases-loop-level : goal.decreases-loop-level
decreases-loop-level g l = l.level
