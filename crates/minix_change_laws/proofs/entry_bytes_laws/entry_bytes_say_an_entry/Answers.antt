use Rattle.minix_change_laws.proofs.EntryBytes.{entry_bytes_law}
use Rattle.minix_change_laws.proofs.entry_bytes_laws.entry_bytes_say_an_entry.Goals as goal

pub returns : goal.returns
returns c = entry_bytes_law
