use Rattle.std.proofs.Common.{◌≡◌, ◌≤◌}
use Rattle.disk_trait.specs.Past.{Told}
use Rattle.lilo_model.specs.MinixParts.{parts_of}
use Rattle.minix_layout.specs.View.{super_view}
use Rattle.minix_zones.specs.Volume.{volume_view, past_of, faults_of, SameVolume}
use Rattle.minix_zones.specs.Held.{AreHeld}
use Rattle.minix_zones.specs.Walk.{rest_of, turns_left}
use Rattle.minix_zones.proofs.walk.Walk.next_held.Given as goal

-- what was passed so far are holes
abbrev pub invariant-loop-self : goal.invariant-loop-self
invariant-loop-self g l = record {
  passed : Told (past_of l.fn.volume) (λ now.
      rest_of (super_view l.fn.volume.layout) (parts_of (volume_view l.fn.volume) now) l.fn.self
      ≡ rest_of (super_view l.fn.volume.layout) (parts_of (volume_view l.fn.volume) now) l.self);
  begun : l.fn.self.end ≤ l.fn.self.index → l.self ≡ l.fn.self;
  fewer : turns_left l.self ≤ turns_left l.fn.self;
  same_inode : l.self.inode ≡ l.fn.self.inode;
  same_end : l.self.end ≡ l.fn.self.end;
  held : AreHeld l.volume l.held;
  later : faults_of l.fn.volume ≤ faults_of l.volume;
  same : SameVolume l.fn.volume l.volume;
}

abbrev pub decreases-loop-self : goal.decreases-loop-self
decreases-loop-self g l = turns_left l.self
