use Rattle.session_install_laws.proofs.Runs.{tidied_keeps_law}
use Rattle.session_install_laws.proofs.laws.runs_after_a_commit_keep_the_new_map.Goals as goal

pub returns : goal.returns
returns c = tidied_keeps_law
