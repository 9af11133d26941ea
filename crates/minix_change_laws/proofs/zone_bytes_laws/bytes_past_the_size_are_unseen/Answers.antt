use Rattle.minix_change_laws.proofs.Unseen.{seen_past_law}
use Rattle.minix_change_laws.proofs.zone_bytes_laws.bytes_past_the_size_are_unseen.Goals as goal

pub returns : goal.returns
returns c = seen_past_law
