-- A pair's directory.
use Rattle.install_order.proofs.WishedLemmas.{pair_looked}
use Rattle.install_order.proofs.directories.look_at_pair.Goals as goal

pub returns-clause-lies : goal.returns-clause-lies
returns-clause-lies g c =
    pair_looked c.args.volume.now c.look_at.new.volume c.look_at.ensures.same c.args.pair.now c.requires.twins c.look_at.result c.look_at.ensures.small
