use Rattle.install_stage_laws.proofs.Spared.{spared_law}
use Rattle.install_stage_laws.proofs.begin_laws.present_map_is_spared.Goals as goal

pub returns : goal.returns
returns c = spared_law
