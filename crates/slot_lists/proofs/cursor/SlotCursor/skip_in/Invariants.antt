use Rattle.std.proofs.Common.{◌≡◌, ◌-◌, length, drop}
use Rattle.lilo_model.specs.Disks.{DiskSector}
use Rattle.slot_lists.specs.Cursor.{left_of, SameKind}
use Rattle.slot_lists.proofs.cursor.SlotCursor.skip_in.Given as goal

-- what is left to be passed is left
abbrev pub invariant-loop-self : goal.invariant-loop-self
invariant-loop-self l = record {
  left : (zero_place : DiskSector) → drop l.left (left_of l.self l.runs zero_place) ≡ drop l.count (left_of l.initial.self l.runs zero_place);
  same : SameKind l.initial.self l.self;
}

abbrev pub decreases-loop-self : goal.decreases-loop-self
decreases-loop-self l = length l.runs - l.self.run
