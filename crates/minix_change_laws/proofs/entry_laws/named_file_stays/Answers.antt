use Rattle.minix_change_laws.proofs.Only.{file_law}
use Rattle.minix_change_laws.proofs.entry_laws.named_file_stays.Goals as goal

pub returns : goal.returns
returns c = file_law
