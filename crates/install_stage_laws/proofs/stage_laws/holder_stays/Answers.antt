use Rattle.install_stage_laws.proofs.Held.{holder_stays_law}
use Rattle.install_stage_laws.proofs.stage_laws.holder_stays.Goals as goal

pub returns : goal.returns
returns c = holder_stays_law
