use Rattle.std.proofs.Common.{◌≡◌}
use Rattle.ldisk_model.specs.FileVerdict.{zero_blocks}
use Rattle.ldisk_files.proofs.content.zero_blocks.Given as goal

-- the blocks before are told apart
abbrev pub invariant-loop-index : goal.invariant-loop-index
invariant-loop-index l = l.holes.items ≡ zero_blocks l.bytes l.index
