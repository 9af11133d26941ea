use Rattle.map_laws.proofs.Whole.{map_law}
use Rattle.map_laws.proofs.laws.planned_map_boots_as_its_menu.Goals as goal

pub returns : goal.returns
returns c = map_law
