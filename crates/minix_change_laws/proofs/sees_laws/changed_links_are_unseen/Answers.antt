use Rattle.minix_change_laws.proofs.Kept.{links_law}
use Rattle.minix_change_laws.proofs.sees_laws.changed_links_are_unseen.Goals as goal

pub returns : goal.returns
returns c = links_law
