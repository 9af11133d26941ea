use Rattle.disk_trait.proofs.LawLemmas.{quiet_law}
use Rattle.disk_trait.proofs.laws.quiet.Goals as goal

pub returns : goal.returns
returns c = quiet_law
