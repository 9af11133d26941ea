use Rattle.map_laws.proofs.ShotLines.{shot_is_read_law}
use Rattle.map_laws.proofs.laws.set_line_is_read.Goals as goal

pub returns : goal.returns
returns c = shot_is_read_law
