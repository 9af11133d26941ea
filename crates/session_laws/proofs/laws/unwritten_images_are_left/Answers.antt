use Rattle.session_laws.proofs.Turns.{unchanged_law}
use Rattle.session_laws.proofs.laws.unwritten_images_are_left.Goals as goal

pub returns : goal.returns
returns c = unchanged_law
