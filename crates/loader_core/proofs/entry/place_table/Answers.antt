use Rattle.loader_core.proofs.EntryLemmas.{table_set}
use Rattle.loader_core.proofs.entry.place_table.Goals as goal

pub returns-then-entry-ne0-clause-memory : goal.returns-then-entry-ne0-clause-memory
returns-then-entry-ne0-clause-memory c = rw (table_set c.args.entry.now.flags c.if-entry-ne0.true) c.place.ensures.memory
