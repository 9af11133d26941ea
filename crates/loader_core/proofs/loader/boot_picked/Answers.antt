use Rattle.std.proofs.Common.{length, Err}
use Rattle.section_loader.specs.declared.reason.Halt.TheVariants.{Refused}
use Rattle.section_loader.specs.declared.reason.Reason.TheVariants as variants
use Rattle.std.proofs.lemmas.Option.{slice_get_past}
use Rattle.sector_address.specs.Machine.{machine_of}
use Rattle.sector_address.specs.View.{slot_view}
use Rattle.boot_map.specs.View.{line_view}
use Rattle.disk_trait.proofs.ToldLemmas.{told_all, told_map}
use Rattle.loader_core.specs.Report.{Report}
use Rattle.loader_core.specs.Start.{ReportsBy}
use Rattle.loader_core.proofs.BootLemmas.{item_there, entry_picked, none_picked, idle_reported}
use Rattle.std.proofs.Common.{refl, rules}
use Rattle.loader_core.proofs.LeavesLemmas.{goes_on_self}
use Rattle.loader_core.proofs.loader.boot_picked.Goals as goal

pub returns-in-Some-clause-report : goal.returns-in-Some-clause-report
returns-in-Some-clause-report g c =
    let machine = machine_of g.D.Disks c.args.disks.now in
    let found = rw (c.as_slice.ensures.value, c.from.ensures) at c.in-Some.ensures.lookup.3 in
    let there = item_there c.args.table.now.entries.items c.args.pick.picked.entry c.in-Some.entry.now found.0 found.1 in
    let P : Report → Type 0 = λ report. ReportsBy g.D.Disks g.O.Sink report c.boot_entry.result c.boot_entry.new.phase
    (c.args.disks.now, c.args.ram.now, c.args.out.now) (c.boot_entry.new.disks, c.boot_entry.new.ram, c.boot_entry.new.out) in
    told_map (g.D.Disks.past c.args.disks.now) _ _
    (λ now report.
    entry_picked now machine (slot_view c.args.at.now.slot) (line_view c.args.at.now.line) c.args.table.now.entries.items (length c.args.ram.now) P c.args.pick.picked c.args.pick.words.now c.args.pick.lock_line.now c.in-Some.entry.now there report)
    c.boot_entry.ensures.report

pub returns-in-None-clause-report : goal.returns-in-None-clause-report
returns-in-None-clause-report g c =
    let machine = machine_of g.D.Disks c.args.disks.now in
    let past = rw (c.as_slice.ensures.value, c.from.ensures) at c.in-None.ensures.lookup.3 in
    let none = slice_get_past c.args.table.now.entries.items c.args.pick.picked.entry past in
    let P : Report → Type 0 = λ report. ReportsBy g.D.Disks g.O.Sink report (Err (Refused variants.Idle)) c.args.phase.now
    (c.args.disks.now, c.args.ram.now, c.args.out.now) (c.args.disks.now, c.args.ram.now, c.args.out.now) in
    told_all (g.D.Disks.past c.args.disks.now) _
    (λ now.
    none_picked now machine (slot_view c.args.at.now.slot) (line_view c.args.at.now.line) c.args.table.now.entries.items (length c.args.ram.now) P c.args.pick.picked c.args.pick.words.now c.args.pick.lock_line.now none
    (idle_reported g.D.Disks g.O.Sink c.args.disks.now c.args.ram.now c.args.out.now c.args.phase.now))

pub returns-in-None-clause-only : goal.returns-in-None-clause-only
returns-in-None-clause-only g c = record {
  keeps = goes_on_self g.D.Disks c.args.disks.now;
  failed = λ failed. let h : ⊥ = cc in absurd h;
  sink = search rules;
  same_reference = refl;
}
