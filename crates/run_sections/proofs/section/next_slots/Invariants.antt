use Rattle.std.proofs.Common.{◌≡◌, ◌-◌, List, length, Ok}
use Rattle.std.specs.Prelude.{All}
use Rattle.lilo_model.specs.Slots as slots
use Rattle.slot_lists.specs.Made.{place_view, IsWritable}
use Rattle.run_sections.specs.Made.{slots_left, AreTaken}
use Rattle.run_sections.proofs.section.next_slots.Given as goal

-- those that were taken are the first, and the others are left
abbrev pub invariant-loop-zero : goal.invariant-loop-zero
invariant-loop-zero l = record {
  left : (slots : List slots.Slot) → slots_left l.initial.cursor l.runs (place_view l.zero) ≡ Ok slots
      → AreTaken l.slots.items slots (slots_left l.cursor l.runs (place_view l.zero));
  writable : All IsWritable l.slots.items;
}

abbrev pub decreases-loop-zero : goal.decreases-loop-zero
decreases-loop-zero l = 63 - length l.slots.items
