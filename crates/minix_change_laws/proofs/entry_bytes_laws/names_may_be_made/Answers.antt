use Rattle.minix_change_laws.proofs.EntrySample.{sample_law}
use Rattle.minix_change_laws.proofs.entry_bytes_laws.names_may_be_made.Goals as goal

pub returns : goal.returns
returns c = sample_law
