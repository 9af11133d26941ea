use Rattle.install_laws.proofs.Stopped.{prepares_law}
use Rattle.install_laws.proofs.laws.stop_before_the_commit_leaves_what_boots_as_before.Goals as goal

pub returns : goal.returns
returns c = prepares_law
