use Rattle.map_section.proofs.TurnLemmas.{next_takes}
use Rattle.map_section.proofs.laws.takes_turns.Goals as goal

pub returns : goal.returns
returns c = next_takes
