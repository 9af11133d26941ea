use Rattle.install_laws.proofs.Planned.{accepted_means_law}
use Rattle.install_laws.proofs.laws.accepted_plan_means_its_configuration.Goals as goal

pub returns : goal.returns
returns c = accepted_means_law
