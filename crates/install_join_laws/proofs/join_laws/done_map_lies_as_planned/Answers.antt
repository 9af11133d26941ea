use Rattle.install_join_laws.proofs.LaidInstalled.{installed_lays_law}
use Rattle.install_join_laws.proofs.join_laws.done_map_lies_as_planned.Goals as goal

pub returns : goal.returns
returns g c = installed_lays_law g.D.Disks
