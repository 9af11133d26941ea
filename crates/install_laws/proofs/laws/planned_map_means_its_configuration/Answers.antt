use Rattle.install_laws.proofs.Planned.{means_law}
use Rattle.install_laws.proofs.laws.planned_map_means_its_configuration.Goals as goal

pub returns : goal.returns
returns c = means_law
