use Rattle.install_laws.proofs.Stopped.{commit_ends_law}
use Rattle.install_laws.proofs.laws.stop_in_the_commit_leaves_one_of_the_two.Goals as goal

pub returns : goal.returns
returns c = commit_ends_law
