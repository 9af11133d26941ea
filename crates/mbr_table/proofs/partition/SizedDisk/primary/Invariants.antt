use Rattle.std.proofs.Common.{◌≡◌, ◌≤◌, ◌+◌, length, drop}
use Rattle.std.specs.Prelude.{map}
use Rattle.lilo_model.specs.Partitions.{listed_from}
use Rattle.mbr_table.specs.Listed.{AreListed}
use Rattle.mbr_table.specs.View.{entry_view, partitions_view}
use Rattle.mbr_table.proofs.ListedLemmas.{behind}
use Rattle.mbr_table.proofs.partition.SizedDisk.primary.Given as goal

-- the partitions so far and those of the entries that are left are all of them
abbrev pub invariant-loop-entry : goal.invariant-loop-entry
invariant-loop-entry l = record {
  partitions : listed_from l.self.size l.self.disk 1 (map entry_view l.table.entries) ≡ behind (partitions_view l.found.items) (listed_from l.self.size l.self.disk l.number (map entry_view (drop l.entry-index l.table.entries)));
  count : length l.found.items ≤ l.entry-index;
  number : l.number ≡ l.entry-index + 1;
  listed : AreListed l.self.disk l.self.size 1 l.number l.found.items;
}
