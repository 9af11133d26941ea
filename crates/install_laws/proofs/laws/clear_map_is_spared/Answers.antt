use Rattle.install_laws.proofs.Writes.{spares_law}
use Rattle.install_laws.proofs.laws.clear_map_is_spared.Goals as goal

pub returns : goal.returns
returns c = spares_law
