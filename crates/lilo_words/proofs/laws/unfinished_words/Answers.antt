use Rattle.lilo_words.proofs.Runs.{unfinished_law}
use Rattle.lilo_words.proofs.laws.unfinished_words.Goals as goal

pub returns : goal.returns
returns c = unfinished_law
