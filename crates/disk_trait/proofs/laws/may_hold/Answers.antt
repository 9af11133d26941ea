use Rattle.disk_trait.proofs.LawLemmas.{may_hold_law}
use Rattle.disk_trait.proofs.laws.may_hold.Goals as goal

pub returns : goal.returns
returns c = may_hold_law
