use Rattle.install_stage_laws.proofs.Sectors.{apart_kept_law}
use Rattle.install_stage_laws.proofs.stage_laws.apart_sectors_are_not_written.Goals as goal

pub returns : goal.returns
returns c = apart_kept_law
