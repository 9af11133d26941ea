use Rattle.std.proofs.Common.{◌≡◌, ◌-◌, length}
use Rattle.slot_lists.specs.Made.{place_view}
use Rattle.slot_lists.specs.Cursor.{left_of, SameKind}
use Rattle.slot_lists.proofs.cursor.SlotCursor.place.Given as goal

-- no sector was passed
abbrev pub invariant-loop-self : goal.invariant-loop-self
invariant-loop-self l = record {
  left : left_of l.self l.runs (place_view l.zero) ≡ left_of l.initial.self l.runs (place_view l.zero);
  same : SameKind l.initial.self l.self;
}

abbrev pub decreases-loop-self : goal.decreases-loop-self
decreases-loop-self l = length l.runs - l.self.run
