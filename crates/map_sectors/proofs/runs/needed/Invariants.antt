use Rattle.std.proofs.Common.{◌≡◌, ◌≤◌, ◌+◌, length, drop}
use Rattle.slot_lists.specs.Runs.{places_in}
use Rattle.file_runs.specs.Needed.{runs_needed}
use Rattle.map_sectors.specs.Runs.{needed_after}
use Rattle.map_sectors.proofs.runs.needed.Given as goal

-- with the runs that the others begin after the last one it is all
abbrev pub invariant-loop-run : goal.invariant-loop-run
invariant-loop-run l = record {
  so : l.needed + needed_after l.last (places_in (drop l.run-index l.runs)) ≡ runs_needed (places_in l.runs);
  most : l.needed + length (places_in (drop l.run-index l.runs)) ≤ length (places_in l.runs);
}
