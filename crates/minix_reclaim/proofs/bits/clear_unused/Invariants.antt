use Rattle.std.proofs.Common.{◌≤◌, ◌-◌, length, ◌≡◌}
use Rattle.minix_reclaim.specs.Bits.{used_bits, ClearsUnused}
use Rattle.minix_reclaim.proofs.bits.clear_unused.Given as goal

-- the bits before are cleared
abbrev pub invariant-loop-bit : goal.invariant-loop-bit
invariant-loop-bit l = record {
  from : l.fn.from ≤ l.at;
  to : l.at ≤ l.fn.to;
  few : l.freed ≤ l.at;
  long : length l.bytes ≡ 512;
  clears : ClearsUnused (used_bits l.bitmap.of l.found l.fn.base) l.fn.from l.at l.fn.bytes l.bytes l.freed;
}

abbrev pub decreases-loop-bit : goal.decreases-loop-bit
decreases-loop-bit l = l.fn.to - l.at
