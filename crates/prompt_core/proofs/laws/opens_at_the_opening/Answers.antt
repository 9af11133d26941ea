use Rattle.prompt_core.proofs.DecidedLemmas.{opening_law}
use Rattle.prompt_core.proofs.laws.opens_at_the_opening.Goals as goal

pub returns : goal.returns
returns c = opening_law
