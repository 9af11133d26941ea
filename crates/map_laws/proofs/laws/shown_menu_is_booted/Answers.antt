use Rattle.map_laws.proofs.Shown.{shows_law}
use Rattle.map_laws.proofs.laws.shown_menu_is_booted.Goals as goal

pub returns : goal.returns
returns c = shows_law
