use Rattle.minix_laws.proofs.RootBytes.{root_law}
use Rattle.minix_laws.proofs.laws.root_volume_is_sound.Goals as goal

pub returns : goal.returns
returns c = root_law
