use Rattle.map_again_laws.proofs.BootAgain.{boot_again}
use Rattle.map_again_laws.proofs.laws.written_boot_sector_is_read.Goals as goal

pub returns : goal.returns
returns c = boot_again
