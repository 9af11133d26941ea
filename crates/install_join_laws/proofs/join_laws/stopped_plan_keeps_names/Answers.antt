use Rattle.install_join_laws.proofs.Kept.{plan_keeps_law}
use Rattle.install_join_laws.proofs.join_laws.stopped_plan_keeps_names.Goals as goal

pub returns : goal.returns
returns g c = plan_keeps_law g.D.Disks
