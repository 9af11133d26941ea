-- The parts of a map, by what each read gave.
use Rattle.std.proofs.Common.{◌≡◌, map}
use Rattle.std.specs.Prelude.{Ok, Err}
use Rattle.std.proofs.lemmas.Result.{err_from_is_err_and}
use Rattle.lilo_model.specs.Checks.{seen, each}
use Rattle.lilo_model.specs.Boot.{slot_bytes_at, entries_of, map_sectors}
use Rattle.sector_address.specs.View.{slot_view}
use Rattle.sector_address.specs.Machine.{machine_of}
use Rattle.bios_model.specs.Machine.{sector_bytes_at}
use Rattle.boot_map.specs.View.{boot_view, table_view, map_fault_view}
use Rattle.section_loader.specs.File.{ReadsOne}
use Rattle.loader_core.specs.Map.{ReadsThere, AreChoices, ReadsChoices, IsReadMap, ReadsMap}
use Rattle.disk_trait.proofs.ToldLemmas.{told_map, told_both, told_three}
use Rattle.loader_core.proofs.MapLemmas.{table_extras, line_halts, table_halts, extras_halt, map_reads}
use Rattle.loader_core.proofs.map.read_map.Goals as goal

pub returns-in_err-read_one-clause-parts : goal.returns-in_err-read_one-clause-parts
returns-in_err-read_one-clause-parts g c =
    let machine = machine_of g.D.Disks c.args.disks.now in
    let halt = c.in_err-read_one.field-0.0 in
    let p = err_from_is_err_and c.from_residual.result c.from_residual.ensures.1 in
    rw (p.1, p.2)
    (told_map (g.D.Disks.past c.args.disks.now)
    (λ now. ReadsOne now machine (slot_view c.args.boot.now.line) (Err halt) c.read_one.new.into)
    (λ now. ReadsMap (Err halt) (map_sectors now machine (boot_view c.args.boot.now)))
    (λ now read. line_halts now machine (boot_view c.args.boot.now) c.read_one.new.into halt read)
    c.in_err-read_one.ensures.sector)

pub returns-in_err-read_table-clause-parts : goal.returns-in_err-read_table-clause-parts
returns-in_err-read_table-clause-parts g c =
    let machine = machine_of g.D.Disks c.args.disks.now in
    let halt = c.in_err-read_table.field-0.0 in
    let boot = boot_view c.args.boot.now in
    let same = c.in_ok-read_one.ensures.reads.same in
    let read = rw (same.same_past, same.same_size, same.same_geometry, c.as_slice.ensures.value) at c.in_err-read_table.ensures.sectors in
    let p = err_from_is_err_and c.from_residual-in_err-read_table.result c.from_residual-in_err-read_table.ensures.1 in
    rw (p.1, p.2)
    (told_map (g.D.Disks.past c.args.disks.now)
    (λ now. ReadsThere (Err halt) c.read_table.new.into (each (map (slot_bytes_at now machine) boot.table)))
    (λ now. ReadsMap (Err halt) (map_sectors now machine boot))
    (λ now found. table_halts now machine boot c.read_table.new.into halt found)
    read)

pub returns-in_err-choices-clause-parts : goal.returns-in_err-choices-clause-parts
returns-in_err-choices-clause-parts g c =
    let machine = machine_of g.D.Disks c.args.disks.now in
    let halt = c.in_err-choices.field-0.0 in
    let boot = boot_view c.args.boot.now in
    let table = c.read-table.result in
    let same = c.in_ok-read_one.ensures.reads.same in
    let same2 = c.in_ok-read_table.ensures.reads.same in
    let there = rw (same.same_past, same.same_size, same.same_geometry, c.as_slice.ensures.value) at c.in_ok-read_table.ensures.sectors in
    let extras = rw (same2.same_past, same2.same_size, same2.same_geometry, same.same_past, same.same_size, same.same_geometry) at c.in_err-choices.ensures.choices in
    let p = err_from_is_err_and c.from_residual-in_err-choices.result c.from_residual-in_err-choices.ensures.1 in
    rw (p.1, p.2)
    (told_both (g.D.Disks.past c.args.disks.now)
    (λ now. each (map (slot_bytes_at now machine) boot.table) ≡ Ok c.read_table.new.into)
    (λ now. ReadsChoices (Err halt) (entries_of (seen table_view map_fault_view table)) (table_extras now machine (seen table_view map_fault_view table)))
    (λ now. ReadsMap (Err halt) (map_sectors now machine boot))
    (λ now found read. extras_halt now machine boot c.read_table.new.into table halt c.read-table.ensures.read found read)
    there extras)

pub returns-clause-parts : goal.returns-clause-parts
returns-clause-parts g c =
    let machine = machine_of g.D.Disks c.args.disks.now in
    let choices = c.in_ok-choices.choices in
    let boot = boot_view c.args.boot.now in
    let line = c.read_one.new.into in
    let table = c.read-table.result in
    let same = c.in_ok-read_one.ensures.reads.same in
    let same2 = c.in_ok-read_table.ensures.reads.same in
    let there = rw (same.same_past, same.same_size, same.same_geometry, c.as_slice.ensures.value) at c.in_ok-read_table.ensures.sectors in
    let extras = rw (same2.same_past, same2.same_size, same2.same_geometry, same.same_past, same.same_size, same.same_geometry) at c.in_ok-choices.ensures.choices in
    told_three (g.D.Disks.past c.args.disks.now)
    (λ now. sector_bytes_at now machine boot.line 0 ≡ Ok line)
    (λ now. each (map (slot_bytes_at now machine) boot.table) ≡ Ok c.read_table.new.into)
    (λ now. AreChoices choices (entries_of (seen table_view map_fault_view table)) (table_extras now machine (seen table_view map_fault_view table)))
    (λ now. IsReadMap (record { line = line; table = table; choices = choices }) (map_sectors now machine boot))
    (λ now first found read. map_reads now machine boot line c.read_table.new.into table choices c.read-table.ensures.read first found read)
    c.in_ok-read_one.ensures.sector there extras
