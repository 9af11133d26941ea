use Rattle.session_laws.proofs.Restores.{restore_law}
use Rattle.session_laws.proofs.laws.restored_sectors_keep_what_a_session_does.Goals as goal

pub returns : goal.returns
returns c = restore_law
