use Rattle.install_begin.proofs.BeginLemmas.{test_law}
use Rattle.install_begin.proofs.laws.tests_answer_as_the_model.Goals as goal

pub returns : goal.returns
returns c = test_law
