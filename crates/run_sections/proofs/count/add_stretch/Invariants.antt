use Rattle.std.proofs.Common.{◌≡◌, ◌≤◌, ◌+◌, ◌-◌, ◌++◌, List, Option}
use Rattle.std.specs.Prelude.{IfSome}
use Rattle.lilo_model.specs.Disks.{DiskSector}
use Rattle.slot_lists.specs.Made.{IsWritable}
use Rattle.slot_lists.specs.Runs.{stretch_places}
use Rattle.run_sections.specs.Counted.{count_left}
use Rattle.run_sections.proofs.count.add_stretch.Given as goal

-- what was counted, and the slots of the sectors that are left, are all
abbrev pub invariant-loop-offset : goal.invariant-loop-offset
invariant-loop-offset l = record {
  left : (rest : List (Option DiskSector))
      → count_left l.naming l.initial.counted (stretch_places l.disk l.start l.count ++ rest)
      ≡ count_left l.naming l.counted (stretch_places l.disk (l.start + l.offset) (l.count - l.offset) ++ rest);
  held : IfSome l.counted.held IsWritable;
  room : l.counted.count ≤ l.initial.counted.count + l.offset;
}
