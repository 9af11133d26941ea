use Rattle.install_join_laws.proofs.Staged.{installation_means_law}
use Rattle.install_join_laws.proofs.join_laws.staged_installation_means_its_configuration.Goals as goal

pub returns : goal.returns
returns g c = installation_means_law g.D.Disks
