use Rattle.minix_change_laws.proofs.Written.{written_law}
use Rattle.minix_change_laws.proofs.entry_bytes_laws.written_entry_changes_alone.Goals as goal

pub returns : goal.returns
returns c = written_law
