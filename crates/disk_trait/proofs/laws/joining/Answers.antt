use Rattle.disk_trait.proofs.LawLemmas.{joining_law}
use Rattle.disk_trait.proofs.laws.joining.Goals as goal

pub returns : goal.returns
returns c = joining_law
