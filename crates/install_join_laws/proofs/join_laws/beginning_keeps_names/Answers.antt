use Rattle.install_join_laws.proofs.Kept.{beginning_keeps_law}
use Rattle.install_join_laws.proofs.join_laws.beginning_keeps_names.Goals as goal

pub returns : goal.returns
returns g c = beginning_keeps_law g.D.Disks
