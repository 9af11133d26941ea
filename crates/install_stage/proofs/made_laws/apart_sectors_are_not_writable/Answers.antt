use Rattle.install_stage.proofs.Kept.{apart_law}
use Rattle.install_stage.proofs.made_laws.apart_sectors_are_not_writable.Goals as goal

pub returns : goal.returns
returns c = apart_law
