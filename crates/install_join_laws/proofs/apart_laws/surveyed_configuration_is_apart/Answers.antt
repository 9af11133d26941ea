use Rattle.install_join_laws.proofs.Surveyed.{surveyed_apart_law}
use Rattle.install_join_laws.proofs.apart_laws.surveyed_configuration_is_apart.Goals as goal

pub returns : goal.returns
returns c = surveyed_apart_law
