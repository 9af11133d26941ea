use Rattle.session_laws.proofs.Turns.{boot_makes_law}
use Rattle.session_laws.proofs.laws.boots_leave_the_line_that_they_give.Goals as goal

pub returns : goal.returns
returns c = boot_makes_law
