use Rattle.install_join_laws.proofs.KeptInstalled.{installation_keeps_law}
use Rattle.install_join_laws.proofs.join_laws.installation_keeps_names.Goals as goal

pub returns : goal.returns
returns g c = installation_keeps_law g.D.Disks
