use Rattle.minix_turns.proofs.LinkLemmas.{lowered_links_law}
use Rattle.minix_turns.proofs.laws.lowered_links_are_enough.Goals as goal

pub returns : goal.returns
returns c = lowered_links_law
