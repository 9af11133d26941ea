use Rattle.minix_change_laws.proofs.Harmless.{unused_zone_law}
use Rattle.minix_change_laws.proofs.beside_laws.unused_zone_may_be_written.Goals as goal

pub returns : goal.returns
returns c = unused_zone_law
