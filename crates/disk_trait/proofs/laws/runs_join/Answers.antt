use Rattle.disk_trait.proofs.LawLemmas.{runs_join_law}
use Rattle.disk_trait.proofs.laws.runs_join.Goals as goal

pub returns : goal.returns
returns g c = runs_join_law g.C.Claim.holds
