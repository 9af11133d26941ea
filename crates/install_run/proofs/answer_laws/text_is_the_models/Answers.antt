use Rattle.install_run.proofs.LawLemmas.{text_law}
use Rattle.install_run.proofs.answer_laws.text_is_the_models.Goals as goal

pub returns : goal.returns
returns c = text_law
