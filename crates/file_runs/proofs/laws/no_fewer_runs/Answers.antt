use Rattle.file_runs.proofs.NeededLemmas.{least_law}
use Rattle.file_runs.proofs.laws.no_fewer_runs.Goals as goal

pub returns : goal.returns
returns c = least_law
