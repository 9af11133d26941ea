use Rattle.minix_remove_laws.proofs.Held.{entry_named_law}
use Rattle.minix_remove_laws.proofs.laws.entry_leads_to_a_named_inode.Goals as goal

pub returns : goal.returns
returns c = entry_named_law
