use Rattle.session_laws.proofs.Restores.{backup_law}
use Rattle.session_laws.proofs.laws.read_backups_are_the_named_ones.Goals as goal

pub returns : goal.returns
returns c = backup_law
