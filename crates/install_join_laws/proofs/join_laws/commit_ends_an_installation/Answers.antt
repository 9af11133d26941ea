use Rattle.install_join_laws.proofs.Installed.{installation_commit_ends_law}
use Rattle.install_join_laws.proofs.join_laws.commit_ends_an_installation.Goals as goal

pub returns : goal.returns
returns g c = installation_commit_ends_law g.D.Disks
