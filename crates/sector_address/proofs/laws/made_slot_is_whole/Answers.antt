use Rattle.sector_address.proofs.MakeLemmas.{make_law}
use Rattle.sector_address.proofs.laws.made_slot_is_whole.Goals as goal

pub returns : goal.returns
returns c = make_law
