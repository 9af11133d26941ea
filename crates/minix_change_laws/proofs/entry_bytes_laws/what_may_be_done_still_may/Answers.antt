use Rattle.minix_change_laws.proofs.Still.{still_law}
use Rattle.minix_change_laws.proofs.entry_bytes_laws.what_may_be_done_still_may.Goals as goal

pub returns : goal.returns
returns c = still_law
