use Rattle.std.proofs.Common.{◌≡◌, ◌-◌}
use Rattle.sector_address.specs.View.{mode_view, geometry_view, slot_view}
use Rattle.slot_lists.specs.Made.{place_view, IsWritable}
use Rattle.slot_lists.specs.Cursor.{left_of, grown, SameKind}
use Rattle.slot_lists.proofs.cursor.SlotCursor.grow.Given as goal

-- what the slot that is held grows to of what is left is what was asked for
abbrev pub invariant-loop-next : goal.invariant-loop-next
invariant-loop-next l = record {
  grows : grown (mode_view l.self.mode) (geometry_view l.self.geometry) (slot_view l.held) (left_of l.self l.runs (place_view l.zero))
      ≡ grown (mode_view l.initial.self.mode) (geometry_view l.initial.self.geometry) (slot_view l.initial.held) (left_of l.initial.self l.runs (place_view l.zero));
  writable : IsWritable l.held;
  same : SameKind l.initial.self l.self;
}

abbrev pub decreases-loop-next : goal.decreases-loop-next
decreases-loop-next l = 128 - l.held.count
