use Rattle.minix_laws.proofs.Inside.{sound_law}
use Rattle.minix_laws.proofs.laws.sound_refuses_nothing.Goals as goal

pub returns : goal.returns
returns c = sound_law
