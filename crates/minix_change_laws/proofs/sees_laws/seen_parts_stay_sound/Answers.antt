use Rattle.minix_change_laws.proofs.Sees.{sees_law}
use Rattle.minix_change_laws.proofs.sees_laws.seen_parts_stay_sound.Goals as goal

pub returns : goal.returns
returns c = sees_law
