use Rattle.install_stage_laws.proofs.Clear.{added_keeps_law}
use Rattle.install_stage_laws.proofs.stage_laws.added_name_keeps_files.Goals as goal

pub returns : goal.returns
returns c = added_keeps_law
