use Rattle.minix_survey_laws.proofs.Facts.{surveyed_law}
use Rattle.minix_survey_laws.proofs.laws.sound_volume_is_surveyed.Goals as goal

pub returns : goal.returns
returns c = surveyed_law
