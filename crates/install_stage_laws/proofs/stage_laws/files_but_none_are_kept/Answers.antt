use Rattle.install_stage_laws.proofs.Clear.{keeps_all_law}
use Rattle.install_stage_laws.proofs.stage_laws.files_but_none_are_kept.Goals as goal

pub returns : goal.returns
returns c = keeps_all_law
