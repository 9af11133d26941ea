use Rattle.minix_turns.proofs.TurnLemmas.{turn_done}
use Rattle.minix_turns.proofs.sector.turn.Goals as goal

-- The flush is found and not named: without it the goal stays open.
pub returns : goal.returns
returns g c = record { turns = turn_done _ _ _ c.requires.quiet _ _ _ c.in_ok-write_sector.ensures.writes _ (assumption c) }
