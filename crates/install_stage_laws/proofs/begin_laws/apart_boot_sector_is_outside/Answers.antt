use Rattle.install_stage_laws.proofs.Apart.{apart_boot_law}
use Rattle.install_stage_laws.proofs.begin_laws.apart_boot_sector_is_outside.Goals as goal

pub returns : goal.returns
returns c = apart_boot_law
