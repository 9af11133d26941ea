use Rattle.install_stage_laws.proofs.Clear.{keeps_but_joined_law}
use Rattle.install_stage_laws.proofs.stage_laws.files_but_one_are_kept_in_a_row.Goals as goal

pub returns : goal.returns
returns c = keeps_but_joined_law
