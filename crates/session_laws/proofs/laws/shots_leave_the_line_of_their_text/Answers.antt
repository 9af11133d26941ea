use Rattle.session_laws.proofs.Turns.{shot_makes_law}
use Rattle.session_laws.proofs.laws.shots_leave_the_line_of_their_text.Goals as goal

pub returns : goal.returns
returns c = shot_makes_law
