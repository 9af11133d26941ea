use Rattle.install_stage_laws.proofs.Sectors.{keeps_rest_law}
use Rattle.install_stage_laws.proofs.stage_laws.unwritten_rest_is_kept.Goals as goal

pub returns : goal.returns
returns c = keeps_rest_law
