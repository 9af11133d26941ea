use Rattle.install_laws.proofs.Answered.{refused_law}
use Rattle.install_laws.proofs.laws.refused_installation_has_a_status_of_its_checks.Goals as goal

pub returns : goal.returns
returns c = refused_law
