use Rattle.session_laws.proofs.Turns.{one_turn_law}
use Rattle.session_laws.proofs.laws.calls_that_write_a_sector_are_turns.Goals as goal

pub returns : goal.returns
returns c = one_turn_law
