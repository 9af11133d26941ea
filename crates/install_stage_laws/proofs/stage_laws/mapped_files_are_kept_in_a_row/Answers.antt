use Rattle.install_stage_laws.proofs.Mapped.{mapped_joined_law}
use Rattle.install_stage_laws.proofs.stage_laws.mapped_files_are_kept_in_a_row.Goals as goal

pub returns : goal.returns
returns c = mapped_joined_law
