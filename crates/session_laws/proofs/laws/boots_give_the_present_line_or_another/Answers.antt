use Rattle.session_laws.proofs.BootLines.{boot_line_law}
use Rattle.session_laws.proofs.laws.boots_give_the_present_line_or_another.Goals as goal

pub returns : goal.returns
returns c = boot_line_law
