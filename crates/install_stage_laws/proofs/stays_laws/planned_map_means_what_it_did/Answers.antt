use Rattle.install_stage_laws.proofs.Stays.{means_stays_law}
use Rattle.install_stage_laws.proofs.stays_laws.planned_map_means_what_it_did.Goals as goal

pub returns : goal.returns
returns c = means_stays_law
