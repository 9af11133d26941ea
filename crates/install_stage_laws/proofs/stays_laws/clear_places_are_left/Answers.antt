use Rattle.install_stage_laws.proofs.Stays.{clear_stays_law}
use Rattle.install_stage_laws.proofs.stays_laws.clear_places_are_left.Goals as goal

pub returns : goal.returns
returns c = clear_stays_law
