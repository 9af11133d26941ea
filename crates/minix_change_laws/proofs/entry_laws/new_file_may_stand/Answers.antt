use Rattle.minix_change_laws.proofs.Names.{new_file_law}
use Rattle.minix_change_laws.proofs.entry_laws.new_file_may_stand.Goals as goal

pub returns : goal.returns
returns c = new_file_law
