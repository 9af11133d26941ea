use Rattle.minix_change_laws.proofs.Seen.{seen_sound_law}
use Rattle.minix_change_laws.proofs.sees_laws.seen_volume_has_the_same_names.Goals as goal

pub returns : goal.returns
returns c = seen_sound_law
