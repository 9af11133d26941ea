use Rattle.install_stage_laws.proofs.Mapped.{files_keep_mapped_law}
use Rattle.install_stage_laws.proofs.stage_laws.mapped_files_are_kept.Goals as goal

pub returns : goal.returns
returns c = files_keep_mapped_law
