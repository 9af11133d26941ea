use Rattle.minix_layout.specs.View.{inode_view}
use Rattle.minix_zones.specs.Walk.{turns_left}
use Rattle.minix_fill.proofs.LoopLemmas.{Clears}
use Rattle.minix_fill.proofs.clear.clear_zones.Given as goal

-- the bits of the zones that were met are cleared
abbrev pub invariant-loop-visit : goal.invariant-loop-visit
invariant-loop-visit g l = Clears l.fn.volume l.volume (inode_view l.inode) l.walk

abbrev pub decreases-loop-visit : goal.decreases-loop-visit
decreases-loop-visit g l = turns_left l.walk
