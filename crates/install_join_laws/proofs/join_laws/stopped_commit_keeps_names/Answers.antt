use Rattle.install_join_laws.proofs.KeptInstalled.{commit_keeps_law}
use Rattle.install_join_laws.proofs.join_laws.stopped_commit_keeps_names.Goals as goal

pub returns : goal.returns
returns g c = commit_keeps_law g.D.Disks
