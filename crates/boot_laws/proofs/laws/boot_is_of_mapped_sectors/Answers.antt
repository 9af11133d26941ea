use Rattle.boot_laws.proofs.Boots.{mapped_law}
use Rattle.boot_laws.proofs.laws.boot_is_of_mapped_sectors.Goals as goal

pub returns : goal.returns
returns c = mapped_law
