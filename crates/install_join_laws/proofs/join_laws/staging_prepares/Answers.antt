use Rattle.install_join_laws.proofs.Prepared.{staging_prepares_law}
use Rattle.install_join_laws.proofs.join_laws.staging_prepares.Goals as goal

pub returns : goal.returns
returns g c = staging_prepares_law g.D.Disks
