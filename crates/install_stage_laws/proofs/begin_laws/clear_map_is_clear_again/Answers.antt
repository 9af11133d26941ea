use Rattle.install_stage_laws.proofs.Spared.{clear_again_law}
use Rattle.install_stage_laws.proofs.begin_laws.clear_map_is_clear_again.Goals as goal

pub returns : goal.returns
returns c = clear_again_law
