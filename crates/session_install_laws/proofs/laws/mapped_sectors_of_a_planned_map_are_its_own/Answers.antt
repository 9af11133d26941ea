use Rattle.session_install_laws.proofs.Mapped.{mapped_lies_law}
use Rattle.session_install_laws.proofs.laws.mapped_sectors_of_a_planned_map_are_its_own.Goals as goal

pub returns : goal.returns
returns c = mapped_lies_law
