use Rattle.install_laws.proofs.Writes.{unwritten_law}
use Rattle.install_laws.proofs.laws.unwritten_sectors_stay.Goals as goal

pub returns : goal.returns
returns c = unwritten_law
