use Rattle.install_stage_laws.proofs.Staged.{staged_written_law}
use Rattle.install_stage_laws.proofs.stage_laws.staged_map_is_written.Goals as goal

pub returns : goal.returns
returns c = staged_written_law
