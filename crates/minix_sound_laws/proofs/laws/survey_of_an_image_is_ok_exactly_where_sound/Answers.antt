use Rattle.minix_sound_laws.proofs.Law.{image_law}
use Rattle.minix_sound_laws.proofs.laws.survey_of_an_image_is_ok_exactly_where_sound.Goals as goal

pub returns : goal.returns
returns c = image_law
