use Rattle.map_laws.proofs.Holder.{lays_held_law}
use Rattle.map_laws.proofs.laws.image_with_lays_is_held.Goals as goal

pub returns : goal.returns
returns c = lays_held_law
