use Rattle.map_section.proofs.TurnLemmas.{enough_turns_law}
use Rattle.map_section.proofs.laws.enough_turns.Goals as goal

pub returns : goal.returns
returns c = enough_turns_law
