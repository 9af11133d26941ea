use Rattle.install_order.proofs.WholeMap.{map_size_law}
use Rattle.install_order.proofs.map_size_laws.planned_map_fits_a_file.Goals as goal

pub returns : goal.returns
returns c = map_size_law
