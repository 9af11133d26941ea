use Rattle.minix_reclaim.proofs.ClearLemmas.{clear_law}
use Rattle.minix_reclaim.proofs.laws.clear_map_is_off_the_bitmaps.Goals as goal

pub returns : goal.returns
returns c = clear_law
