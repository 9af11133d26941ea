use Rattle.minix_change_laws.proofs.Names.{remove_law}
use Rattle.minix_change_laws.proofs.entry_laws.freed_entry_takes_a_name_away.Goals as goal

pub returns : goal.returns
returns c = remove_law
