use Rattle.disk_trait.proofs.LawLemmas.{last_moment_law}
use Rattle.disk_trait.proofs.laws.last_moment.Goals as goal

pub returns : goal.returns
returns c = last_moment_law
