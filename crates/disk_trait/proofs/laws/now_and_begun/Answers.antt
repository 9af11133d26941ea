use Rattle.disk_trait.proofs.LawLemmas.{now_and_begun_law}
use Rattle.disk_trait.proofs.laws.now_and_begun.Goals as goal

pub returns : goal.returns
returns c = now_and_begun_law
