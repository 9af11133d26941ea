use Rattle.session_laws.proofs.Turns.{boot_stays_law}
use Rattle.session_laws.proofs.laws.boots_that_keep_the_line_leave_the_image.Goals as goal

pub returns : goal.returns
returns c = boot_stays_law
