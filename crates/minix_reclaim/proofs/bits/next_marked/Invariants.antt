use Rattle.std.proofs.Common.{◌≡◌, ◌≤◌, ◌<◌, ◌-◌, ℕ, false}
use Rattle.lilo_model.specs.MinixParts.{bit}
use Rattle.minix_reclaim.proofs.bits.next_marked.Given as goal

-- no bit before is set
abbrev pub invariant-loop-at : goal.invariant-loop-at
invariant-loop-at l = record {
  from : l.fn.from ≤ l.at;
  few : l.at ≤ 4096;
  none : (m : ℕ) → l.fn.from ≤ m → m < l.at → bit l.bytes m ≡ false;
}

abbrev pub decreases-loop-at : goal.decreases-loop-at
decreases-loop-at l = 4096 - l.at
