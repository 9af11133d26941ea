use Rattle.minix_change_laws.proofs.Seen.{seen_join_law}
use Rattle.minix_change_laws.proofs.sees_laws.unseen_writes_join.Goals as goal

pub returns : goal.returns
returns c = seen_join_law
