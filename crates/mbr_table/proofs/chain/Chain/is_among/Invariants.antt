use Rattle.std.proofs.Common.{◌≡◌, ◌≤◌, ◌-◌}
use Rattle.std.specs.Prelude.{nat_eq, Some}
use Rattle.std.specs.List.{list_any}
use Rattle.disk_trait.specs.Past.{Told}
use Rattle.disk_trait.specs.Calls.{SameOf}
use Rattle.lilo_model.specs.Partitions.{linked_sector, chain_from}
use Rattle.mbr_table.proofs.chain.Chain.is_among.Given as goal

-- the sector is among the tables that are left where it is among all of them
abbrev pub invariant-loop : goal.invariant-loop
invariant-loop g l =
    let disks = g.D.Disks in
    record {
      found : Told (disks.past l.fn.disks) (λ now. let linked = linked_sector (now l.self.disk.disk) l.self.disk.size l.self.outer in list_any (nat_eq l.sector) (chain_from linked l.tables (Some l.self.outer)) ≡ list_any (nat_eq l.sector) (chain_from linked (l.tables - l.counter) (Some l.at)));
      same : SameOf disks l.fn.disks l.disks;
      later : disks.faults l.fn.disks ≤ disks.faults l.disks;
    }
