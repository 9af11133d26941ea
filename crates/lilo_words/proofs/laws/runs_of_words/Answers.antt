use Rattle.lilo_words.proofs.Runs.{run_law}
use Rattle.lilo_words.proofs.laws.runs_of_words.Goals as goal

pub returns : goal.returns
returns c = run_law
