use Rattle.std.proofs.Common.{◌≡◌, ◌≤◌, ◌+◌, length, drop}
use Rattle.std.specs.Prelude.{IfSome}
use Rattle.sector_address.specs.View.{mode_view, geometry_view}
use Rattle.slot_lists.specs.Made.{IsWritable}
use Rattle.slot_lists.specs.Runs.{places_in}
use Rattle.run_sections.specs.Counted.{slots_counted, count_left}
use Rattle.run_sections.proofs.count.count_in.Given as goal

-- what was counted, and the slots of the runs that are left, are all
abbrev pub invariant-loop-run : goal.invariant-loop-run
invariant-loop-run l = record {
  left : slots_counted (mode_view l.naming.mode) (geometry_view l.naming.geometry) l.naming.compact (places_in l.runs)
      ≡ count_left l.naming l.counted (places_in (drop l.run-index l.runs));
  held : IfSome l.counted.held IsWritable;
  room : l.counted.count + length (places_in (drop l.run-index l.runs)) ≤ length (places_in l.runs);
}
