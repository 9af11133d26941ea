use Rattle.install_stage_laws.proofs.Spared.{outside_stays_law}
use Rattle.install_stage_laws.proofs.begin_laws.outside_is_left.Goals as goal

pub returns : goal.returns
returns c = outside_stays_law
