use Rattle.std.proofs.Common.{◌≡◌, ◌≤◌, ◌<◌, ◌+◌, ◌-◌, ℕ, false}
use Rattle.minix_steps.specs.Free.{is_free_in}
use Rattle.minix_steps.proofs.scan.first_free.Given as goal

-- no number before is free
abbrev pub invariant-loop-bit : goal.invariant-loop-bit
invariant-loop-bit l = record {
  from : l.fn.at ≤ l.fn.base + l.bit;
  few : l.bit ≤ 4096;
  none : (m : ℕ) → l.fn.at ≤ m → m < l.fn.base + l.bit → is_free_in l.bytes l.fn.base l.avoid.numbers m ≡ false;
}

abbrev pub decreases-loop-bit : goal.decreases-loop-bit
decreases-loop-bit l = 4096 - l.bit
