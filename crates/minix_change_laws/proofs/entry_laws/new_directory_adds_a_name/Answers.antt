use Rattle.minix_change_laws.proofs.Names.{enter_directory_law}
use Rattle.minix_change_laws.proofs.entry_laws.new_directory_adds_a_name.Goals as goal

pub returns : goal.returns
returns c = enter_directory_law
