use Rattle.minix_sound_laws.proofs.Law.{sound_law}
use Rattle.minix_sound_laws.proofs.laws.survey_is_ok_exactly_where_sound.Goals as goal

pub returns : goal.returns
returns c = sound_law
