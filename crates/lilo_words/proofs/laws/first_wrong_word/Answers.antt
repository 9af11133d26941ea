use Rattle.lilo_words.proofs.Runs.{first_wrong_law}
use Rattle.lilo_words.proofs.laws.first_wrong_word.Goals as goal

pub returns : goal.returns
returns c = first_wrong_law
