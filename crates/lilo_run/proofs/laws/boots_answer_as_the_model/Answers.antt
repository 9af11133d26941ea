use Rattle.lilo_run.proofs.LawLemmas.{boot_verdict_law}
use Rattle.lilo_run.proofs.laws.boots_answer_as_the_model.Goals as goal

pub returns : goal.returns
returns c = boot_verdict_law
