use Rattle.install_join_laws.proofs.Installed.{installation_law}
use Rattle.install_join_laws.proofs.join_laws.installation_is_the_headline.Goals as goal

pub returns : goal.returns
returns g c = installation_law g.D.Disks
