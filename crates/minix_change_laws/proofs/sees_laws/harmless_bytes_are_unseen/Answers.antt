use Rattle.minix_change_laws.proofs.Seen.{seen_beside_law}
use Rattle.minix_change_laws.proofs.sees_laws.harmless_bytes_are_unseen.Goals as goal

pub returns : goal.returns
returns c = seen_beside_law
