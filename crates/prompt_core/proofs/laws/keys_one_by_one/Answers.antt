use Rattle.prompt_core.proofs.StartLemmas.{keys_law}
use Rattle.prompt_core.proofs.laws.keys_one_by_one.Goals as goal

pub returns : goal.returns
returns c = keys_law
