use Rattle.session_laws.proofs.GivenLines.{given_line_law}
use Rattle.session_laws.proofs.laws.given_lines_can_be_said.Goals as goal

pub returns : goal.returns
returns c = given_line_law
