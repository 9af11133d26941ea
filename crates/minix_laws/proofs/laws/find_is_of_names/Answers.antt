use Rattle.minix_laws.proofs.WalkNames.{find_law}
use Rattle.minix_laws.proofs.laws.find_is_of_names.Goals as goal

pub returns : goal.returns
returns c = find_law
