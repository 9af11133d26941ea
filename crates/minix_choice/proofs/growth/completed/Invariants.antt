use Rattle.std.proofs.Common.{◌≡◌, ◌≤◌, ◌++◌, drop}
use Rattle.write_model.specs.Growth.{completed}
use Rattle.minix_choice.proofs.growth.completed.Given as goal

-- what was given so far, and what the zones that are left give
abbrev pub invariant-loop-promise : goal.invariant-loop-promise
invariant-loop-promise l = record {
  gave : l.growth.items ++ completed (drop l.promise-index l.promised) (drop l.next l.zones) ≡ completed l.promised l.zones;
  few : l.next ≤ l.promise-index;
}
