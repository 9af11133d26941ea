use Rattle.std.proofs.Common.{◌≡◌, drop}
use Rattle.std.specs.Prelude.{map, find}
use Rattle.lilo_model.specs.Partitions.{is_link}
use Rattle.mbr_table.specs.View.{entry_view}
use Rattle.mbr_table.proofs.table.Table4.link.Given as goal

-- the first of the entries that are left is the first of all
abbrev pub invariant-loop-entry : goal.invariant-loop-entry
invariant-loop-entry l =
    find is_link (map entry_view l.self.entries) ≡ find is_link (map entry_view (drop l.entry-index l.self.entries))
