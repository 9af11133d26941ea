use Rattle.minix_change_laws.proofs.Harmless.{clear_zone_law}
use Rattle.minix_change_laws.proofs.beside_laws.unused_zone_may_be_freed.Goals as goal

pub returns : goal.returns
returns c = clear_zone_law
