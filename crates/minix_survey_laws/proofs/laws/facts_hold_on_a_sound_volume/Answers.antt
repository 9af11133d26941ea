use Rattle.minix_survey_laws.proofs.Facts.{facts_law}
use Rattle.minix_survey_laws.proofs.laws.facts_hold_on_a_sound_volume.Goals as goal

pub returns : goal.returns
returns c = facts_law
