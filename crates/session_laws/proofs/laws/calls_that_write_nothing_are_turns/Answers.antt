use Rattle.session_laws.proofs.Turns.{still_turn_law}
use Rattle.session_laws.proofs.laws.calls_that_write_nothing_are_turns.Goals as goal

pub returns : goal.returns
returns c = still_turn_law
