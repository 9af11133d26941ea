use Rattle.ldisk_run.proofs.LawLemmas.{listing_law}
use Rattle.ldisk_run.proofs.laws.ls_prints_the_lines_of_the_entries.Goals as goal

pub returns : goal.returns
returns c = listing_law
