use Rattle.disk_trait.specs.MemDisks.{sizes_of, past_in}
use Rattle.minix_stops.proofs.laws.whole_disks.Goals as goal

pub returns : goal.returns
returns c =
    c.whole.ensures (past_in c.args.disks.now) (sizes_of c.args.disks.now.start)
    (λ disk sector inside. c.events-events.ensures.start_whole disk sector) c.events-events.ensures.events_whole
