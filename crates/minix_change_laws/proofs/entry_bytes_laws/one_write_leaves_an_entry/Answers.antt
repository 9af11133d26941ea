use Rattle.minix_change_laws.proofs.Written.{write_entry_law}
use Rattle.minix_change_laws.proofs.entry_bytes_laws.one_write_leaves_an_entry.Goals as goal

pub returns : goal.returns
returns c = write_entry_law
