use Rattle.minix_change_laws.proofs.Replace.{remove_lower_law}
use Rattle.minix_change_laws.proofs.entry_laws.removed_name_leaves_a_link.Goals as goal

pub returns : goal.returns
returns c = remove_lower_law
