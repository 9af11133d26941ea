use Rattle.minix_survey_laws.proofs.Count.{count_law}
use Rattle.minix_survey_laws.proofs.laws.names_are_counted_by_places.Goals as goal

pub returns : goal.returns
returns c = count_law
