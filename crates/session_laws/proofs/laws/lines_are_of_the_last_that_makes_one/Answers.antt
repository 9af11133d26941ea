use Rattle.session_laws.proofs.Origins.{line_law}
use Rattle.session_laws.proofs.laws.lines_are_of_the_last_that_makes_one.Goals as goal

pub returns : goal.returns
returns c = line_law
