use Rattle.map_again_laws.proofs.Texts.{line_again}
use Rattle.map_again_laws.proofs.laws.written_line_is_read.Goals as goal

pub returns : goal.returns
returns c = line_again
