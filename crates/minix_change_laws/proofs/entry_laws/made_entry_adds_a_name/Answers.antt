use Rattle.minix_change_laws.proofs.Names.{enter_law}
use Rattle.minix_change_laws.proofs.entry_laws.made_entry_adds_a_name.Goals as goal

pub returns : goal.returns
returns c = enter_law
