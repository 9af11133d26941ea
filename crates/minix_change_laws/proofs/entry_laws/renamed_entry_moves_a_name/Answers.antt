use Rattle.minix_change_laws.proofs.Names.{rename_law}
use Rattle.minix_change_laws.proofs.entry_laws.renamed_entry_moves_a_name.Goals as goal

pub returns : goal.returns
returns c = rename_law
