use Rattle.std.proofs.Common.{◌≡◌}
use Rattle.std.specs.VecDeque.Iter.{deque_iter_rest}
use Rattle.disk_trait.specs.Past.{Image, now_after}
use Rattle.disk_trait.proofs.mem_disks.last_write.Given as goal

abbrev pub invariant-loop-event : goal.invariant-loop-event
invariant-loop-event l =
    (start : Image) → now_after start l.events.items l.disk l.sector ≡ now_after start (deque_iter_rest l.event-iterator) l.disk l.sector
