use Rattle.std.proofs.Common.{◌≡◌, ◌-◌, length}
use Rattle.minix_create.specs.Chosen.{block_of}
use Rattle.minix_create.specs.States.{IsInHand, IsReservedSince}
use Rattle.ldisk_files.specs.Stored.{padded_blocks}
use Rattle.ldisk_files.proofs.storing.write_file.Given as goal

-- the blocks before the next one are written
abbrev pub invariant-loop-index : goal.invariant-loop-index
invariant-loop-index g l = record {
  hand : IsInHand l.reserved;
  same : l.reserved.chosen ≡ l.fn.chosen;
  since : IsReservedSince l.fn.volume (block_of (padded_blocks l.bytes)) l.reserved;
}

abbrev pub decreases-loop-index : goal.decreases-loop-index
decreases-loop-index g l = length l.reserved.chosen.choice.blocks - l.reserved.next
