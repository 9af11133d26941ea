use Rattle.minix_change_laws.proofs.Only.{keeps_named_law}
use Rattle.minix_change_laws.proofs.entry_laws.named_inodes_stay.Goals as goal

pub returns : goal.returns
returns c = keeps_named_law
