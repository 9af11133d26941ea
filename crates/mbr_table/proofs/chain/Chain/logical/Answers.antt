-- The chain is followed table by table.
use Rattle.std.proofs.Common.{◌≡◌, ◌+◌, length, subst, arith}
use Rattle.std.specs.Prelude.{Ok, Err, None, Some, option_map}
use Rattle.std.proofs.lemmas.Result.{err_from_is_err_and}
use Rattle.lilo_model.specs.Partitions.{chain_entries, logical_at, logical_of}
use Rattle.mbr_table.specs.Gives.{Refuses}
use Rattle.mbr_table.specs.View.{table_view, partition_view, partitions_view, table_fault_view}
use Rattle.mbr_table.proofs.ToldLemmas.{told_before, same_twice}
use Rattle.mbr_table.proofs.ChainLemmas.{told_highest}
use Rattle.mbr_table.proofs.ListedLemmas.{AreListed-add, AreListed-weaker, few-add}
use Rattle.mbr_table.proofs.LogicalLemmas.{first_tables, told_refused_table, told_refused_partition, told_one_table, told_next_table, told_last_table}
use Rattle.mbr_table.proofs.chain.Chain.logical.Goals as goal

pub returns-in_err-table-clause-partitions : goal.returns-in_err-table-clause-partitions
returns-in_err-table-clause-partitions g c =
    let disk = c.args.self.disk in
    let past = g.D.Disks.past c.args.disks.now in
    let fault = c.in_err-table.field-0.0 in
    let state = c.loop-tables.invariant in
    let read =
    told_before past (g.D.Disks.past c.loop-tables.disks)
    (λ now. Refuses fault (chain_entries (now disk.disk) disk.size (first_tables now disk.disk disk.size c.args.self.outer c.loop-tables.tables) c.loop-tables.sector))
    state.same.same_past c.in_err-table.ensures.table in
    let p = err_from_is_err_and c.from_residual.result c.from_residual.ensures.1 in
    rw (p.1, p.2)
    (told_refused_table past disk.disk disk.size c.args.self.outer (length c.loop-tables.found.items + 5) c.loop-tables.tables c.loop-tables.sector
    (partitions_view c.loop-tables.found.items) fault c.loop-tables-test.true state.partitions read)

pub returns-in_err-partition-clause-partitions : goal.returns-in_err-partition-clause-partitions
returns-in_err-partition-clause-partitions g c =
    let disk = c.args.self.disk in
    let past = g.D.Disks.past c.args.disks.now in
    let fault = c.in_err-partition.field-0.0 in
    let state = c.loop-tables.invariant in
    let entries = table_view c.in_ok-table.table in
    let read =
    told_before past (g.D.Disks.past c.loop-tables.disks)
    (λ now. chain_entries (now disk.disk) disk.size (first_tables now disk.disk disk.size c.args.self.outer c.loop-tables.tables) c.loop-tables.sector ≡ Ok entries)
    state.same.same_past c.in_ok-table.ensures.table in
    let is =
    subst (λ n. Err (table_fault_view fault) ≡ logical_at disk.size disk.disk c.loop-tables.sector (n + 5) (logical_of entries))
    c.len.ensures.value c.in_err-partition.ensures.partition in
    let p = err_from_is_err_and c.from_residual-in_err-partition.result c.from_residual-in_err-partition.ensures.1 in
    rw (p.1, p.2)
    (told_refused_partition past disk.disk disk.size c.args.self.outer (length c.loop-tables.found.items + 5) c.loop-tables.tables c.loop-tables.sector
    (partitions_view c.loop-tables.found.items) entries fault c.loop-tables-test.true state.partitions read is)

pub returns-in-None-clause-partitions : goal.returns-in-None-clause-partitions
returns-in-None-clause-partitions g c =
    let disk = c.args.self.disk in
    let past = g.D.Disks.past c.args.disks.now in
    let state = c.loop-tables.invariant in
    let entries = table_view c.in_ok-table.table in
    let read =
    told_before past (g.D.Disks.past c.loop-tables.disks)
    (λ now. chain_entries (now disk.disk) disk.size (first_tables now disk.disk disk.size c.args.self.outer c.loop-tables.tables) c.loop-tables.sector ≡ Ok entries)
    state.same.same_past c.in_ok-table.ensures.table in
    let is =
    subst (λ n. Ok (option_map partition_view c.in_ok-partition.partition) ≡ logical_at disk.size disk.disk c.loop-tables.sector (n + 5) (logical_of entries))
    c.len.ensures.value c.in_ok-partition.ensures.partition in
    told_last_table past disk.disk disk.size c.args.self.outer (length c.add.new.found.items + 5) (c.loop-tables.tables + 1) (partitions_view c.add.new.found.items)
    (told_one_table past disk.disk disk.size c.args.self.outer c.loop-tables.tables c.loop-tables.sector c.loop-tables.found.items
    entries c.in_ok-partition.partition c.add.new.found.items None c.link_in.result c.loop-tables-test.true state.partitions state.earlier read
    is c.add.ensures c.link_in.ensures.link c.in-None.is)

pub returns-in-None-clause-listed : goal.returns-in-None-clause-listed
returns-in-None-clause-listed g c =
    let disk = c.args.self.disk in
    let few =
    few-add c.len.result c.loop-tables.found.items c.add.new.found.items c.in_ok-partition.partition c.len.ensures.value
    c.loop-tables.invariant.few c.in_ok-partition.ensures.few c.add.ensures in
    AreListed-weaker disk.disk disk.size 5 (length c.add.new.found.items + 5) 64 c.add.new.found.items (omega (arith, few))
    (AreListed-add disk.disk disk.size c.len.result c.loop-tables.found.items c.add.new.found.items c.in_ok-partition.partition
    c.len.ensures.value c.loop-tables.invariant.listed c.in_ok-partition.ensures.span c.in_ok-partition.ensures.number c.add.ensures)

pub loop-tables-preserved : goal.loop-tables-preserved
loop-tables-preserved g c =
    let disk = c.args.self.disk in
    let past = g.D.Disks.past c.args.disks.now in
    let state = c.loop-tables.invariant in
    let entries = table_view c.in_ok-table.table in
    let read =
    told_before past (g.D.Disks.past c.loop-tables.disks)
    (λ now. chain_entries (now disk.disk) disk.size (first_tables now disk.disk disk.size c.args.self.outer c.loop-tables.tables) c.loop-tables.sector ≡ Ok entries)
    state.same.same_past c.in_ok-table.ensures.table in
    let is =
    subst (λ n. Ok (option_map partition_view c.in_ok-partition.partition) ≡ logical_at disk.size disk.disk c.loop-tables.sector (n + 5) (logical_of entries))
    c.len.ensures.value c.in_ok-partition.ensures.partition in
    record {
      partitions =
          told_one_table past disk.disk disk.size c.args.self.outer c.loop-tables.tables c.loop-tables.sector c.loop-tables.found.items
          entries c.in_ok-partition.partition c.add.new.found.items (Some c.in-Some.next) c.link_in.result c.loop-tables-test.true state.partitions state.earlier read
          is c.add.ensures c.link_in.ensures.link c.in-Some.is;
      earlier =
          told_next_table past disk.disk disk.size c.args.self.outer c.loop-tables.tables c.loop-tables.sector entries c.in-Some.next c.link_in.result
          state.earlier read c.link_in.ensures.link c.in-Some.is;
      highest =
          told_highest past disk.disk disk.size c.args.self.outer c.loop-tables.tables c.loop-tables.highest c.loop-tables.sector
          c.max-highest.result (omega (arith, c.max-highest.ensures)) (omega (arith, c.max-highest.ensures)) state.highest state.earlier;
      few =
          few-add c.len.result c.loop-tables.found.items c.add.new.found.items c.in_ok-partition.partition c.len.ensures.value
          state.few c.in_ok-partition.ensures.few c.add.ensures;
      small = c.in-Some.ensures.small;
      listed =
          AreListed-add disk.disk disk.size c.len.result c.loop-tables.found.items c.add.new.found.items c.in_ok-partition.partition
          c.len.ensures.value state.listed c.in_ok-partition.ensures.span c.in_ok-partition.ensures.number c.add.ensures;
      same =
          same_twice g.D.Disks.past g.D.Disks.size_of g.D.Disks.count_of g.D.Disks.geometry_of _ _ _ state.same c.in_ok-table.ensures.same;
      later = omega (arith, state.later, c.in_ok-table.ensures.later);
    }
