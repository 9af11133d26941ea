use Rattle.boot_laws.proofs.Mapped.{same_mapped_law}
use Rattle.boot_laws.proofs.laws.mapped_sectors_stay.Goals as goal

pub returns : goal.returns
returns c = same_mapped_law
