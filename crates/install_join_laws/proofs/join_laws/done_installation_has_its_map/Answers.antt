use Rattle.install_join_laws.proofs.KeptInstalled.{installed_law}
use Rattle.install_join_laws.proofs.join_laws.done_installation_has_its_map.Goals as goal

pub returns : goal.returns
returns g c = installed_law g.D.Disks
