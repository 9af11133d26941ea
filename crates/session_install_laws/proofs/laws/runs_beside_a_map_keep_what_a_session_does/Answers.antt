use Rattle.session_install_laws.proofs.Runs.{file_run_law}
use Rattle.session_install_laws.proofs.laws.runs_beside_a_map_keep_what_a_session_does.Goals as goal

pub returns : goal.returns
returns c = file_run_law
