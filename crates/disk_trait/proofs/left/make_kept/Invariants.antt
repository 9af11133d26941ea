use Rattle.std.proofs.Common.{◌≡◌, ◌+◌}
use Rattle.disk_trait.specs.Past.{Image, now_after, first_events}
use Rattle.disk_trait.specs.MemDisks.{image_of}
use Rattle.disk_trait.specs.Left.{left_after, SameShape}
use Rattle.disk_trait.proofs.left.make_kept.Given as goal

abbrev pub invariant-loop-i : goal.invariant-loop-i
invariant-loop-i l = record {
  image : (start : Image) → image_of l.initial.disks ≡ now_after start (first_events l.first l.events.items) → image_of l.disks ≡ left_after start (first_events (l.first + l.i) l.events.items) l.keep;
  shape : SameShape l.initial.disks l.disks;
}
