use Rattle.minix_steps.proofs.PartLemmas.{zone_bytes_law}
use Rattle.minix_steps.proofs.step_laws.written_zone_is_one_zone.Goals as goal

pub returns : goal.returns
returns c = zone_bytes_law
