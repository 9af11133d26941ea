use Rattle.std.proofs.Common.{◌≡◌}
use Rattle.disk_trait.specs.Past.{now_after, first_events}
use Rattle.disk_trait.specs.MemDisks.{image_of}
use Rattle.disk_trait.specs.Left.{SameShape}
use Rattle.disk_trait.proofs.left.make_first.Given as goal

abbrev pub invariant-loop-i : goal.invariant-loop-i
invariant-loop-i l = record {
  image : image_of l.disks ≡ now_after (image_of l.initial.disks) (first_events l.i l.events.items);
  shape : SameShape l.initial.disks l.disks;
}
