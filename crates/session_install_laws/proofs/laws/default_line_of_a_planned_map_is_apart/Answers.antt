use Rattle.session_install_laws.proofs.Mapped.{line_apart_law}
use Rattle.session_install_laws.proofs.laws.default_line_of_a_planned_map_is_apart.Goals as goal

pub returns : goal.returns
returns c = line_apart_law
