use Rattle.minix_change_laws.proofs.Seen.{seen_parts_law}
use Rattle.minix_change_laws.proofs.sees_laws.seen_parts_are_a_volume.Goals as goal

pub returns : goal.returns
returns c = seen_parts_law
