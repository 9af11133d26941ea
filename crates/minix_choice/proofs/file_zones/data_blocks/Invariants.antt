use Rattle.std.proofs.Common.{◌≡◌, true, length, drop, replicate}
use Rattle.lilo_model.specs.MinixParts.{blocks_for}
use Rattle.write_model.specs.FileZones.{without_holes}
use Rattle.minix_choice.proofs.file_zones.data_blocks.Given as goal

-- the holes that are left are struck out of the blocks so far
abbrev pub invariant-loop-hole : goal.invariant-loop-hole
invariant-loop-hole l = record {
  struck : without_holes (drop l.hole-index l.holes) l.blocks.items ≡ without_holes l.holes (replicate (blocks_for l.size) true);
  many : length l.blocks.items ≡ blocks_for l.size;
}
