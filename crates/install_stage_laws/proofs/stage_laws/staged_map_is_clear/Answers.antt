use Rattle.install_stage_laws.proofs.Clear.{staged_clear_law}
use Rattle.install_stage_laws.proofs.stage_laws.staged_map_is_clear.Goals as goal

pub returns : goal.returns
returns c = staged_clear_law
