use Rattle.ldisk_make.proofs.EntryLemmas.{table_law}
use Rattle.ldisk_make.proofs.laws.table_reads_as_asked.Goals as goal

pub returns : goal.returns
returns c = table_law
