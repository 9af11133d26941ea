use Rattle.minix_change_laws.proofs.Seen.{seen_same_law}
use Rattle.minix_change_laws.proofs.sees_laws.what_stands_is_seen.Goals as goal

pub returns : goal.returns
returns c = seen_same_law
