use Rattle.minix_survey_laws.proofs.Count.{links_law}
use Rattle.minix_survey_laws.proofs.laws.count_bounds_all_places.Goals as goal

pub returns : goal.returns
returns c = links_law
