use Rattle.session_install_laws.proofs.Committed.{committed_keeps_law}
use Rattle.session_install_laws.proofs.laws.committed_map_keeps_what_a_session_does.Goals as goal

pub returns : goal.returns
returns c = committed_keeps_law
