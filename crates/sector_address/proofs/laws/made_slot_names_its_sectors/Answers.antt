use Rattle.sector_address.proofs.MadeLemmas.{made_sectors_law}
use Rattle.sector_address.proofs.laws.made_slot_names_its_sectors.Goals as goal

pub returns : goal.returns
returns c = made_sectors_law
