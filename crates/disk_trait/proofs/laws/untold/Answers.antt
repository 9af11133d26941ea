use Rattle.disk_trait.proofs.LawLemmas.{untold_law}
use Rattle.disk_trait.proofs.laws.untold.Goals as goal

pub returns : goal.returns
returns c = untold_law
