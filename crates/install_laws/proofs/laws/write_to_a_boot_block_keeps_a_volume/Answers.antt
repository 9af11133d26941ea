use Rattle.install_laws.proofs.Outside.{apart_write_law}
use Rattle.install_laws.proofs.laws.write_to_a_boot_block_keeps_a_volume.Goals as goal

pub returns : goal.returns
returns c = apart_write_law
