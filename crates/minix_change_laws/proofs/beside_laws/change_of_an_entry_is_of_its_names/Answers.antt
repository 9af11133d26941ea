use Rattle.minix_change_laws.proofs.Entries.{entry_law}
use Rattle.minix_change_laws.proofs.beside_laws.change_of_an_entry_is_of_its_names.Goals as goal

pub returns : goal.returns
returns c = entry_law
