use Rattle.minix_change_laws.proofs.Harmless.{region_law}
use Rattle.minix_change_laws.proofs.beside_laws.parts_stand_on_the_volume.Goals as goal

pub returns : goal.returns
returns c = region_law
