use Rattle.install_settle.proofs.TidiedLemmas.{tidied_map_law}
use Rattle.install_settle.proofs.tidied_laws.tidied_map_means_its_configuration.Goals as goal

pub returns : goal.returns
returns c = tidied_map_law
