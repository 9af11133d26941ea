use Rattle.install_laws.proofs.Answered.{answered_law}
use Rattle.install_laws.proofs.laws.answered_installation_passed_its_checks.Goals as goal

pub returns : goal.returns
returns c = answered_law
