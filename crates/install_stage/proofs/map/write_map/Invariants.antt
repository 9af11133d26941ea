use Rattle.std.proofs.Common.{◌≡◌, ◌-◌, ℕ, List, length}
use Rattle.disk_trait.specs.Moments.{IsTold}
use Rattle.minix_create.specs.States.{IsInHand, IsReservedSince}
use Rattle.minix_zones.specs.Volume.{past_of}
use Rattle.install_stage.specs.Blocks.{AreMapBlocks}
use Rattle.install_stage.proofs.map.write_map.Given as goal

-- the blocks before the next one are written
abbrev pub invariant-loop-index : goal.invariant-loop-index
invariant-loop-index g l = record {
  hand : IsInHand l.reserved;
  same : l.reserved.chosen ≡ l.fn.chosen;
  since : (given : ℕ → List ℕ) → (IsTold (past_of l.fn.volume) → AreMapBlocks l.plan l.places given)
      → IsReservedSince l.fn.volume given l.reserved;
  some : (given : ℕ → List ℕ) × IsReservedSince l.fn.volume given l.reserved;
}

abbrev pub decreases-loop-index : goal.decreases-loop-index
decreases-loop-index g l = length l.reserved.chosen.choice.blocks - l.reserved.next
