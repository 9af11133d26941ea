use Rattle.prompt_core.proofs.ShortLemmas.{short_law}
use Rattle.prompt_core.proofs.laws.lines_are_short.Goals as goal

pub returns : goal.returns
returns c = short_law
