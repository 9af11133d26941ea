use Rattle.minix_turns.proofs.LinkLemmas.{raised_links_law}
use Rattle.minix_turns.proofs.laws.raised_links_are_enough.Goals as goal

pub returns : goal.returns
returns c = raised_links_law
