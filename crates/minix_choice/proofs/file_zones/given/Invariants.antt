use Rattle.std.proofs.Common.{◌≡◌, ◌≤◌, ◌++◌, drop}
use Rattle.write_model.specs.FileZones.{given}
use Rattle.minix_choice.proofs.file_zones.given.Given as goal

-- what was given so far, and what the zones that are left give
abbrev pub invariant-loop-it : goal.invariant-loop-it
invariant-loop-it l = record {
  gave : l.found.items ++ given (drop l.it-index l.made) (drop l.next l.zones) ≡ given l.made l.zones;
  few : l.next ≤ l.it-index;
}
