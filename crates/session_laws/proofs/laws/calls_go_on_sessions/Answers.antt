use Rattle.session_laws.proofs.Sessions.{turn_law}
use Rattle.session_laws.proofs.laws.calls_go_on_sessions.Goals as goal

pub returns : goal.returns
returns c = turn_law
