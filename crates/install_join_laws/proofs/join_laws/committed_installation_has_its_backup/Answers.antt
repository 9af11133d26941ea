use Rattle.install_join_laws.proofs.KeptInstalled.{committed_backup_law}
use Rattle.install_join_laws.proofs.join_laws.committed_installation_has_its_backup.Goals as goal

pub returns : goal.returns
returns g c = committed_backup_law g.D.Disks
