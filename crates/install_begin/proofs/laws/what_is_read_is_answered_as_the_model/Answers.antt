use Rattle.install_begin.proofs.BeginLemmas.{answer_law}
use Rattle.install_begin.proofs.laws.what_is_read_is_answered_as_the_model.Goals as goal

pub returns : goal.returns
returns c = answer_law
