use Rattle.std.proofs.Common.{◌≡◌, ◌≤◌, ◌-◌, List, drop, Ok}
use Rattle.lilo_model.specs.Slots as slots
use Rattle.slot_lists.specs.Made.{place_view}
use Rattle.run_sections.specs.Made.{slots_left}
use Rattle.run_sections.proofs.section.pass_slots.Given as goal

-- those that were passed aren't left
abbrev pub invariant-loop-passed : goal.invariant-loop-passed
invariant-loop-passed l = record {
  left : (slots : List slots.Slot) → slots_left l.initial.cursor l.runs (place_view l.zero) ≡ Ok slots
      → slots_left l.cursor l.runs (place_view l.zero) ≡ Ok (drop l.passed slots);
  few : l.passed ≤ l.count;
}

abbrev pub decreases-loop-passed : goal.decreases-loop-passed
decreases-loop-passed l = l.count - l.passed
