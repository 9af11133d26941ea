use Rattle.install_join_laws.proofs.Passing.{passing_law}
use Rattle.install_join_laws.proofs.apart_laws.path_that_passes_by_fails_as_before.Goals as goal

pub returns : goal.returns
returns c = passing_law
