use Rattle.install_stage_laws.proofs.Committed.{staged_lays_law}
use Rattle.install_stage_laws.proofs.stage_laws.staged_map_has_lays.Goals as goal

pub returns : goal.returns
returns c = staged_lays_law
