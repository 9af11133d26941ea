use Rattle.std.proofs.Common.{length, sym, subst, Err}
use Rattle.section_loader.specs.declared.reason.Halt.TheVariants.{Refused}
use Rattle.section_loader.specs.declared.reason.Reason.TheVariants as variants
use Rattle.sector_address.specs.Machine.{machine_of}
use Rattle.sector_address.specs.View.{slot_view}
use Rattle.boot_map.specs.View.{line_view}
use Rattle.disk_trait.proofs.ToldLemmas.{told_all, told_map}
use Rattle.loader_core.specs.Report.{Report}
use Rattle.loader_core.specs.Start.{ReportsBy}
use Rattle.loader_core.proofs.BootLemmas.{chosen_reports, idle_reported, idle_chosen}
use Rattle.std.proofs.Common.{refl, rules}
use Rattle.loader_core.proofs.LeavesLemmas.{goes_on_self}
use Rattle.loader_core.proofs.loader.boot_chosen.Goals as goal

pub returns-in-Some-clause-report : goal.returns-in-Some-clause-report
returns-in-Some-clause-report g c =
    let machine = machine_of g.D.Disks c.args.disks.now in
    let P : Report → Type 0 = λ report. ReportsBy g.D.Disks g.O.Sink report c.boot_picked.result c.boot_picked.new.phase
    (c.args.disks.now, c.args.ram.now, c.args.out.now) (c.boot_picked.new.disks, c.boot_picked.new.ram, c.boot_picked.new.out) in
    told_map (g.D.Disks.past c.args.disks.now) _ _
    (λ now picked model at entries long.
    chosen_reports now machine (slot_view c.args.at.now.slot) model (line_view c.args.at.now.line) c.args.table.now.entries.items c.args.prompt.now.state c.in-Some.picked c.words.result.now c.lock_line.result.now (length c.args.ram.now) P
    at entries long (sym c.in-Some.ensures) c.words.ensures.words c.lock_line.ensures.line picked)
    c.boot_picked.ensures.report

pub returns-in-None-clause-report : goal.returns-in-None-clause-report
returns-in-None-clause-report g c =
    let machine = machine_of g.D.Disks c.args.disks.now in
    let P : Report → Type 0 = λ report. ReportsBy g.D.Disks g.O.Sink report (Err (Refused variants.Idle)) c.args.phase.now
    (c.args.disks.now, c.args.ram.now, c.args.out.now) (c.args.disks.now, c.args.ram.now, c.args.out.now) in
    told_all (g.D.Disks.past c.args.disks.now) _
    (λ now model at entries long.
    subst P (sym (idle_chosen now machine (slot_view c.args.at.now.slot) model c.args.prompt.now.state (length c.args.ram.now) (sym c.in-None.ensures)))
    (idle_reported g.D.Disks g.O.Sink c.args.disks.now c.args.ram.now c.args.out.now c.args.phase.now))

pub returns-in-None-clause-only : goal.returns-in-None-clause-only
returns-in-None-clause-only g c = record {
  keeps = goes_on_self g.D.Disks c.args.disks.now;
  failed = λ failed. let h : ⊥ = cc in absurd h;
  sink = search rules;
  same_reference = refl;
}
