use Rattle.disk_trait.proofs.NotWrittenLemmas.{not_written_law, not_written_by_one_law, not_written_by_range_law, not_written_join, not_written_stays}
use Rattle.disk_trait.proofs.laws.not_written.Goals as goal

pub returns-clause-exact : goal.returns-clause-exact
returns-clause-exact c = not_written_law

pub returns-clause-by_one : goal.returns-clause-by_one
returns-clause-by_one c = not_written_by_one_law

pub returns-clause-by_range : goal.returns-clause-by_range
returns-clause-by_range c = not_written_by_range_law

pub returns-clause-joins : goal.returns-clause-joins
returns-clause-joins c = not_written_join

pub returns-clause-stays : goal.returns-clause-stays
returns-clause-stays c = not_written_stays
