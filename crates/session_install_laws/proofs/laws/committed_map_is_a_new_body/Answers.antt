use Rattle.session_install_laws.proofs.Committed.{committed_means_law}
use Rattle.session_install_laws.proofs.laws.committed_map_is_a_new_body.Goals as goal

pub returns : goal.returns
returns c = committed_means_law
