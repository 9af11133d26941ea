use Rattle.disk_trait.proofs.LawLemmas.{end_of_run_law}
use Rattle.disk_trait.proofs.laws.end_of_run.Goals as goal

pub returns : goal.returns
returns g c = end_of_run_law g.C.Claim.holds
