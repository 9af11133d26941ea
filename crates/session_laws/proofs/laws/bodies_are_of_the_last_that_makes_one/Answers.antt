use Rattle.session_laws.proofs.Origins.{body_law}
use Rattle.session_laws.proofs.laws.bodies_are_of_the_last_that_makes_one.Goals as goal

pub returns : goal.returns
returns c = body_law
