use Rattle.minix_change_laws.proofs.Joins.{sees_join_law}
use Rattle.minix_change_laws.proofs.sees_laws.changes_that_are_unseen_join.Goals as goal

pub returns : goal.returns
returns c = sees_join_law
