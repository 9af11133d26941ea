use Rattle.std.proofs.Common.{◌≡◌, ◌+◌, length, drop}
use Rattle.slot_lists.specs.Runs.{places_in}
use Rattle.map_sectors.proofs.chains.sectors_of.Given as goal

-- with the sectors of the runs that are left it is all
abbrev pub invariant-loop-run : goal.invariant-loop-run
invariant-loop-run l = record {
  so : l.sectors + length (places_in (drop l.run-index l.runs)) ≡ length (places_in l.runs);
}
