use Rattle.minix_change_laws.proofs.Changes.{fill_law}
use Rattle.minix_change_laws.proofs.growth_laws.bytes_past_the_entries_are_unseen.Goals as goal

pub returns : goal.returns
returns c = fill_law
