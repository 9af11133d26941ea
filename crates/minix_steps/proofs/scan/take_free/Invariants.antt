use Rattle.std.proofs.Common.{◌≡◌, ◌≤◌, ◌-◌, ◌++◌, length, take}
use Rattle.minix_steps.specs.Free.{is_free_in, free_from}
use Rattle.minix_steps.proofs.scan.take_free.Given as goal

-- the numbers so far
abbrev pub invariant-loop-base : goal.invariant-loop-base
invariant-loop-base l = record {
  from : l.fn.at ≤ l.at;
  order : l.at ≤ l.fn.end;
  taken : l.found.items ≡ take l.fn.need (l.fn.found.items ++ free_from (is_free_in l.bytes l.fn.base l.avoid.numbers) l.fn.at (l.at - l.fn.at));
  few : length l.found.items ≤ l.fn.need;
}

abbrev pub decreases-loop-base : goal.decreases-loop-base
decreases-loop-base l = l.fn.end - l.at
