-- The zone is met exactly where it is met from here on.
use Rattle.std.proofs.Common.{◌≡◌, ◌≤◌}
use Rattle.disk_trait.specs.Past.{Told}
use Rattle.lilo_model.specs.MinixParts.{parts_of}
use Rattle.lilo_model.specs.MinixWalk.{visits}
use Rattle.minix_layout.specs.View.{super_view, inode_view}
use Rattle.minix_zones.specs.Held.{AreHeld}
use Rattle.minix_zones.specs.Volume.{volume_view, past_of, faults_of, SameVolume}
use Rattle.minix_zones.specs.Walk.{rest_of, turns_left}
use Rattle.present_map.specs.Holder.{meets_zone}
use Rattle.present_map.proofs.holder.has_zone.Given as goal

abbrev pub invariant-loop-visit : goal.invariant-loop-visit
invariant-loop-visit g l = record {
  seeks : Told (past_of l.fn.volume) (λ now.
      meets_zone l.zone (visits (super_view l.fn.volume.layout) (parts_of (volume_view l.fn.volume) now) (inode_view l.node))
      ≡ meets_zone l.zone (rest_of (super_view l.fn.volume.layout) (parts_of (volume_view l.fn.volume) now) l.walk));
  held : AreHeld l.volume l.held;
  later : faults_of l.fn.volume ≤ faults_of l.volume;
  same : SameVolume l.fn.volume l.volume;
}

abbrev pub decreases-loop-visit : goal.decreases-loop-visit
decreases-loop-visit g l = turns_left l.walk
