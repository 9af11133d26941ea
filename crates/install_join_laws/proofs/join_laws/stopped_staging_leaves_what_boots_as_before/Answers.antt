use Rattle.install_join_laws.proofs.Prepared.{staging_stops_law}
use Rattle.install_join_laws.proofs.join_laws.stopped_staging_leaves_what_boots_as_before.Goals as goal

pub returns : goal.returns
returns g c = staging_stops_law g.D.Disks
