use Rattle.minix_change_laws.proofs.Changed.{changed_law}
use Rattle.minix_change_laws.proofs.entry_laws.changed_entry_keeps_a_volume_sound.Goals as goal

pub returns : goal.returns
returns c = changed_law
