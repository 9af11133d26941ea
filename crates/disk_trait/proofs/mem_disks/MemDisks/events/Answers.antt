use Rattle.std.proofs.Common.{subst}
use Rattle.disk_trait.specs.MemDisks.{HasWholeSectors, now_in}
use Rattle.disk_trait.proofs.Changed.{whole-now_after}
use Rattle.disk_trait.proofs.mem_disks.MemDisks.events.Goals as goal

pub returns-clause-now_whole : goal.returns-clause-now_whole
returns-clause-now_whole c =
    subst (λ m. HasWholeSectors (now_in m)) c.self.view_is (whole-now_after _ _ c.self.invariant.start_whole c.self.invariant.events_whole)
