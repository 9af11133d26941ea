use Rattle.install_stage_laws.proofs.Held.{holds_beside_law}
use Rattle.install_stage_laws.proofs.stage_laws.holder_stays_by_its_name.Goals as goal

pub returns : goal.returns
returns c = holds_beside_law
