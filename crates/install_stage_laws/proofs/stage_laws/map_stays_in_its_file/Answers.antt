use Rattle.install_stage_laws.proofs.HoldsMap.{holds_map_stays_law}
use Rattle.install_stage_laws.proofs.stage_laws.map_stays_in_its_file.Goals as goal

pub returns : goal.returns
returns c = holds_map_stays_law
