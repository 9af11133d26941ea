-- A backup's directory.
use Rattle.install_order.proofs.WishedLemmas.{backup_looked, no_backup_lies}
use Rattle.install_order.proofs.directories.look_at_backup.Goals as goal

pub returns-in-Some-clause-lies : goal.returns-in-Some-clause-lies
returns-in-Some-clause-lies g c =
    rw c.in-Some.is (backup_looked c.look_at_pair.new.volume c.in-Some.pair c.look_at_pair.result c.look_at_pair.ensures.lies)

pub returns-in-None-clause-lies : goal.returns-in-None-clause-lies
returns-in-None-clause-lies g c = rw c.in-None.is (no_backup_lies c.args.volume.now)
