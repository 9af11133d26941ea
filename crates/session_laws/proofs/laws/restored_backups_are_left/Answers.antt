use Rattle.session_laws.proofs.Turns.{restore_makes_law}
use Rattle.session_laws.proofs.laws.restored_backups_are_left.Goals as goal

pub returns : goal.returns
returns c = restore_makes_law
