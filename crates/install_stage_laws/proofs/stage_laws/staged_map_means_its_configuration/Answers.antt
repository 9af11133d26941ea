use Rattle.install_stage_laws.proofs.Staged.{staged_means_law}
use Rattle.install_stage_laws.proofs.stage_laws.staged_map_means_its_configuration.Goals as goal

pub returns : goal.returns
returns c = staged_means_law
