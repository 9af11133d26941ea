use Rattle.minix_change_laws.proofs.Replace.{replace_law}
use Rattle.minix_change_laws.proofs.entry_laws.name_replaces_another.Goals as goal

pub returns : goal.returns
returns c = replace_law
