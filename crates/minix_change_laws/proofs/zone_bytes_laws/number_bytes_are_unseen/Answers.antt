use Rattle.minix_change_laws.proofs.Unseen.{seen_number_law}
use Rattle.minix_change_laws.proofs.zone_bytes_laws.number_bytes_are_unseen.Goals as goal

pub returns : goal.returns
returns c = seen_number_law
