use Rattle.minix_survey_laws.proofs.Paths.{survey_law}
use Rattle.minix_survey_laws.proofs.laws.surveyed_volume_is_sound.Goals as goal

pub returns : goal.returns
returns c = survey_law
