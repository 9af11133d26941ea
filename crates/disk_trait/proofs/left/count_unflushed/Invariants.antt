use Rattle.std.proofs.Common.{◌≡◌, ◌≤◌}
use Rattle.disk_trait.specs.Past.{first_events}
use Rattle.disk_trait.specs.Left.{unflushed_count}
use Rattle.disk_trait.proofs.left.count_unflushed.Given as goal

abbrev pub invariant-loop-i : goal.invariant-loop-i
invariant-loop-i l = record { so_far : l.count ≡ unflushed_count (first_events l.i l.events.items); few : l.count ≤ l.i }
