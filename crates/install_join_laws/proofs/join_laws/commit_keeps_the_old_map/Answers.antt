use Rattle.install_join_laws.proofs.KeptInstalled.{commit_map_law}
use Rattle.install_join_laws.proofs.join_laws.commit_keeps_the_old_map.Goals as goal

pub returns : goal.returns
returns g c = commit_map_law g.D.Disks
