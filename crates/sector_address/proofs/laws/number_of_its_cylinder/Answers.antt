use Rattle.sector_address.proofs.TrackLemmas.{number_law}
use Rattle.sector_address.proofs.laws.number_of_its_cylinder.Goals as goal

pub returns : goal.returns
returns c = number_law
