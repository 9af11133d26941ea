use Rattle.std.proofs.Common.{ℕ}
use Rattle.minix_zones.specs.Held.{AreHeld}
use Rattle.minix_zones.specs.Walk.{turns_left}
use Rattle.minix_survey.proofs.ZoneLoop.{Walks}
use Rattle.minix_survey.proofs.walk.meet_zones.Given as goal

abbrev pub invariant-loop-visit : goal.invariant-loop-visit
invariant-loop-visit g l = record {
  walks : Walks l.fn.volume l.volume l.fn.tables l.tables l.inode l.node l.walk;
  held : AreHeld l.volume l.held;
}

abbrev pub decreases-loop-visit : goal.decreases-loop-visit
decreases-loop-visit g l = turns_left l.walk
