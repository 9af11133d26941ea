use Rattle.session_laws.proofs.StateBoots.{state_boots_law}
use Rattle.session_laws.proofs.laws.states_decide_what_boots.Goals as goal

pub returns : goal.returns
returns c = state_boots_law
