use Rattle.std.proofs.Common.{◌≡◌}
use Rattle.std.specs.Prelude.{None}
use Rattle.lilo_model.specs.Table.{first_below, same_name}
use Rattle.boot_map.proofs.table.repeats.Given as goal

-- no earlier entry so far has the name
abbrev pub invariant-loop-other : goal.invariant-loop-other
invariant-loop-other l = first_below (same_name l.sectors l.entry) l.other ≡ None
