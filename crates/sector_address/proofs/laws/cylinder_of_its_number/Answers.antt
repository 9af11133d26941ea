use Rattle.sector_address.proofs.TrackLemmas.{cylinder_law}
use Rattle.sector_address.proofs.laws.cylinder_of_its_number.Goals as goal

pub returns : goal.returns
returns c = cylinder_law
