use Rattle.session_laws.proofs.LineWrites.{held_line_law}
use Rattle.session_laws.proofs.laws.written_lines_keep_the_holder.Goals as goal

pub returns : goal.returns
returns c = held_line_law
