use Rattle.session_laws.proofs.Origins.{foreign_boots_law}
use Rattle.session_laws.proofs.laws.foreign_bodies_are_handed_over.Goals as goal

pub returns : goal.returns
returns c = foreign_boots_law
