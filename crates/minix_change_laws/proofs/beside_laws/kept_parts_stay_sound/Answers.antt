use Rattle.minix_change_laws.proofs.Keeps.{keeps_law}
use Rattle.minix_change_laws.proofs.beside_laws.kept_parts_stay_sound.Goals as goal

pub returns : goal.returns
returns c = keeps_law
