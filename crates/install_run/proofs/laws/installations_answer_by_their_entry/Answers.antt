use Rattle.install_run.proofs.EntryLemmas.{entry_answer_law}
use Rattle.install_run.proofs.laws.installations_answer_by_their_entry.Goals as goal

pub returns : goal.returns
returns c = entry_answer_law
