use Rattle.minix_change_laws.proofs.ReplaceBytes.{replace_bytes_law}
use Rattle.minix_change_laws.proofs.entry_bytes_laws.bytes_of_two_entries_replace_a_name.Goals as goal

pub returns : goal.returns
returns c = replace_bytes_law
