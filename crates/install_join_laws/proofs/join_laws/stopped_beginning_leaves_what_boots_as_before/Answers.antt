use Rattle.install_join_laws.proofs.Prepared.{beginning_stops_law}
use Rattle.install_join_laws.proofs.join_laws.stopped_beginning_leaves_what_boots_as_before.Goals as goal

pub returns : goal.returns
returns g c = beginning_stops_law g.D.Disks
