use Rattle.install_stage_laws.proofs.Committed.{tidied_lays_law}
use Rattle.install_stage_laws.proofs.stage_laws.tidied_map_has_lays.Goals as goal

pub returns : goal.returns
returns c = tidied_lays_law
