use Rattle.minix_create.proofs.MadeOther.{other_place_law}
use Rattle.minix_create.proofs.made_laws.place_of_another_may_be_had.Goals as goal

pub returns : goal.returns
returns c = other_place_law
