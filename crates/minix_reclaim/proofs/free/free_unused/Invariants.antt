use Rattle.std.proofs.Common.{Ok}
use Rattle.minix_reclaim.specs.Frees.{FreesMap}
use Rattle.minix_reclaim.proofs.free.free_unused.Given as goal

-- the bits of the sectors before are cleared
abbrev pub invariant-loop-index : goal.invariant-loop-index
invariant-loop-index g l = FreesMap l.fn.volume l.volume l.bitmap l.found l.index (Ok l.freed)
