use Rattle.map_laws.proofs.Lines.{lines_law}
use Rattle.map_laws.proofs.laws.planned_map_boots_with_each_line.Goals as goal

pub returns : goal.returns
returns c = lines_law
