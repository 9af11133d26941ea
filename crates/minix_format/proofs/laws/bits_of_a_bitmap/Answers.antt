use Rattle.minix_format.proofs.MapLemmas.{map_law}
use Rattle.minix_format.proofs.laws.bits_of_a_bitmap.Goals as goal

pub returns : goal.returns
returns c = map_law
