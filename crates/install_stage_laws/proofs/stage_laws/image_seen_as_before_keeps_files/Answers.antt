use Rattle.install_stage_laws.proofs.Clear.{seen_keeps_law}
use Rattle.install_stage_laws.proofs.stage_laws.image_seen_as_before_keeps_files.Goals as goal

pub returns : goal.returns
returns c = seen_keeps_law
