use Rattle.std.proofs.Common.{◌≡◌, ◌-◌, length}
use Rattle.minix_create.specs.Chosen.{block_of}
use Rattle.minix_create.specs.States.{IsInHand, IsReservedSince}
use Rattle.minix_create.proofs.creation.create.Given as goal

-- the blocks before the next one are written
abbrev pub invariant-loop-index : goal.invariant-loop-index
invariant-loop-index g l = record {
  hand : IsInHand l.reserved;
  same : l.reserved.chosen ≡ l.fn.chosen;
  since : IsReservedSince l.fn.volume (block_of l.blocks) l.reserved;
}

abbrev pub decreases-loop-index : goal.decreases-loop-index
decreases-loop-index g l = length l.reserved.chosen.choice.blocks - l.reserved.next
