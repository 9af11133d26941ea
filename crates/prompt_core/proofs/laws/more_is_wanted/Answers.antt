use Rattle.prompt_core.proofs.MoreLemmas.{more_law}
use Rattle.prompt_core.proofs.laws.more_is_wanted.Goals as goal

pub returns : goal.returns
returns c = more_law
