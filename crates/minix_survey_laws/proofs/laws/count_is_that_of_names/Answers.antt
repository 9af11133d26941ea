use Rattle.minix_survey_laws.proofs.Names.{names_law}
use Rattle.minix_survey_laws.proofs.laws.count_is_that_of_names.Goals as goal

pub returns : goal.returns
returns c = names_law
