use Rattle.minix_sound_laws.proofs.Findings.{met_law}
use Rattle.minix_sound_laws.proofs.laws.survey_says_what_is_on_the_volume.Goals as goal

pub returns : goal.returns
returns c = met_law
