use Rattle.session_laws.proofs.Origins.{boots_law}
use Rattle.session_laws.proofs.laws.what_boots_is_of_the_last_that_makes_it.Goals as goal

pub returns : goal.returns
returns c = boots_law
