use Rattle.install_join_laws.proofs.Kept.{staging_keeps_law}
use Rattle.install_join_laws.proofs.join_laws.stopped_staging_keeps_names.Goals as goal

pub returns : goal.returns
returns g c = staging_keeps_law g.D.Disks
