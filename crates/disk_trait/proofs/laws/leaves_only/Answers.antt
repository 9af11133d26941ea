use Rattle.disk_trait.proofs.LawLemmas.{leaves_only_law}
use Rattle.disk_trait.proofs.laws.leaves_only.Goals as goal

pub returns : goal.returns
returns g c = leaves_only_law g.C.Claim.holds
