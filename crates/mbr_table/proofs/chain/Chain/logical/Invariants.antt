use Rattle.std.proofs.Common.{◌≡◌, ◌≤◌, ◌<◌, ◌+◌, ◌-◌, ◌^◌, [], ◌∷◌, ◌++◌, length}
use Rattle.std.specs.Prelude.{Some, All}
use Rattle.disk_trait.specs.Past.{Told}
use Rattle.disk_trait.specs.Calls.{SameOf}
use Rattle.lilo_model.specs.Partitions.{linked_sector, chain_from, chain_tables, logical_from}
use Rattle.mbr_table.specs.Listed.{AreListed}
use Rattle.mbr_table.specs.View.{partitions_view}
use Rattle.mbr_table.proofs.ListedLemmas.{behind}
use Rattle.mbr_table.proofs.chain.Chain.logical.Given as goal

-- the partitions so far and those of the tables that are left are all of them, and the sector is that of the table
-- after those that were read
abbrev pub invariant-loop-tables : goal.invariant-loop-tables
invariant-loop-tables g l =
    let disks = g.D.Disks in
    record {
      partitions : Told (disks.past l.fn.disks) (λ now. let sectors = now l.self.disk.disk in let linked = linked_sector sectors l.self.disk.size l.self.outer in logical_from sectors l.self.disk.size l.self.disk.disk 5 [] (chain_tables sectors l.self.disk.size l.self.outer) ≡ behind (partitions_view l.found.items) (logical_from sectors l.self.disk.size l.self.disk.disk (length l.found.items + 5) (chain_from linked l.tables (Some l.self.outer)) (chain_from linked (l.self.disk.size - l.tables) (Some l.sector))));
      earlier : Told (disks.past l.fn.disks) (λ now. let linked = linked_sector (now l.self.disk.disk) l.self.disk.size l.self.outer in chain_from linked (l.tables + 1) (Some l.self.outer) ≡ chain_from linked l.tables (Some l.self.outer) ++ (l.sector ∷ []));
      highest : Told (disks.past l.fn.disks) (λ now. All (λ earlier. earlier ≤ l.highest) (chain_from (linked_sector (now l.self.disk.disk) l.self.disk.size l.self.outer) l.tables (Some l.self.outer)));
      few : length l.found.items ≤ 59;
      small : l.sector < 2 ^ 34;
      listed : AreListed l.self.disk.disk l.self.disk.size 5 (length l.found.items + 5) l.found.items;
      same : SameOf disks l.fn.disks l.disks;
      later : disks.faults l.fn.disks ≤ disks.faults l.disks;
    }
