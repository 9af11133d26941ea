use Rattle.std.proofs.Common.{◌≡◌, ◌≤◌, ◌<◌, ℕ}
use Rattle.std.specs.Prelude.{slice_index}
use Rattle.minix_create.proofs.reserved.next_block.Given as goal

-- no block got a zone so far
abbrev pub invariant-loop-at : goal.invariant-loop-at
invariant-loop-at l = record {
  from_on : l.fn.from ≤ l.at;
  holes : (i : ℕ) → l.fn.from ≤ i → i < l.at → slice_index l.blocks i ≡ 0;
}
