use Rattle.minix_change_laws.proofs.Kept.{kept_is_seen_law}
use Rattle.minix_change_laws.proofs.sees_laws.kept_parts_are_seen_as_before.Goals as goal

pub returns : goal.returns
returns c = kept_is_seen_law
