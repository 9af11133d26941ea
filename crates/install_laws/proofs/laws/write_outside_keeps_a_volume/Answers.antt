use Rattle.install_laws.proofs.Outside.{outside_law}
use Rattle.install_laws.proofs.laws.write_outside_keeps_a_volume.Goals as goal

pub returns : goal.returns
returns c = outside_law
