use Rattle.disk_trait.proofs.LawLemmas.{weaker_law}
use Rattle.disk_trait.proofs.laws.weaker.Goals as goal

pub returns : goal.returns
returns g c = weaker_law g.C.Claim.holds g.W.Claim.holds
