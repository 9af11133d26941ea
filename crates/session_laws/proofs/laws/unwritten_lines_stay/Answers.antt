use Rattle.session_laws.proofs.PresentLines.{present_line_law}
use Rattle.session_laws.proofs.laws.unwritten_lines_stay.Goals as goal

pub returns : goal.returns
returns c = present_line_law
