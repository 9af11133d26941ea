use Rattle.install_join_laws.proofs.Kept.{staging_map_law}
use Rattle.install_join_laws.proofs.join_laws.staging_keeps_the_old_map.Goals as goal

pub returns : goal.returns
returns g c = staging_map_law g.D.Disks
