use Rattle.disk_trait.proofs.LawLemmas.{whole_law}
use Rattle.disk_trait.proofs.laws.whole.Goals as goal

pub returns : goal.returns
returns c = whole_law
