use Rattle.install_stage_laws.proofs.Mapped.{but_keep_mapped_law}
use Rattle.install_stage_laws.proofs.stage_laws.mapped_files_are_kept_but_none.Goals as goal

pub returns : goal.returns
returns c = but_keep_mapped_law
