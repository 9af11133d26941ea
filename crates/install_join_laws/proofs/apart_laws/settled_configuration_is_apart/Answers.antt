use Rattle.install_join_laws.proofs.Stays.{settled_apart_law}
use Rattle.install_join_laws.proofs.apart_laws.settled_configuration_is_apart.Goals as goal

pub returns : goal.returns
returns c = settled_apart_law
