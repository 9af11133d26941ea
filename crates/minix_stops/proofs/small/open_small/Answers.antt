use Rattle.disk_trait.specs.MemDisks.{past_in}
use Rattle.minix_layout.specs.View.{kind_view}
use Rattle.minix_stops.proofs.SmallLemmas.{opened}
use Rattle.minix_stops.proofs.small.open_small.Goals as goal

pub returns-in-Ok-clause-open : goal.returns-in-Ok-clause-open
returns-in-Ok-clause-open c =
    opened c.in-Ok.volume (kind_view c.args.kind) (past_in c.args.disks.now) c.in-Ok.ensures.same.same_past
    c.requires.sectors c.requires.quiet c.in-Ok.ensures.volume
