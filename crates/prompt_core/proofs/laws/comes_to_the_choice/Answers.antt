use Rattle.prompt_core.proofs.DecidedLemmas.{choice_law}
use Rattle.prompt_core.proofs.laws.comes_to_the_choice.Goals as goal

pub returns : goal.returns
returns c = choice_law
