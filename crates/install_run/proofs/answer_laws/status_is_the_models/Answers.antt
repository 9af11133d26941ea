use Rattle.install_run.proofs.LawLemmas.{status_law}
use Rattle.install_run.proofs.answer_laws.status_is_the_models.Goals as goal

pub returns : goal.returns
returns c = status_law
