use Rattle.std.proofs.Common.{length, sym, subst, ap, Err}
use Rattle.sector_address.specs.Machine.{machine_of}
use Rattle.sector_address.specs.View.{slot_view}
use Rattle.bios_model.specs.Memory.{memory_of}
use Rattle.boot_map.specs.View.{descriptor_view, line_view}
use Rattle.stream_trait.specs.Shows.{sink_of}
use Rattle.disk_trait.proofs.ToldLemmas.{told_map, told_both}
use Rattle.loader_core.specs.Report.{Report}
use Rattle.loader_core.specs.Start.{ReportsBy}
use Rattle.loader_core.specs.View.{picked_view}
use Rattle.loader_core.proofs.BootLemmas.{texts_same, texts_halted, texts_unwritten, reported_after}
use Rattle.loader_core.proofs.LeavesLemmas.{read_leaves}
use Rattle.bios_model.proofs.WriteLemmas.{goes_on_read}
use Rattle.std.proofs.Common.{◌≡◌, rules}
use Rattle.section_loader.specs.declared.reason.Halt.TheVariants.{Device}
use Rattle.lilo_model.proofs.RoseLemmas.{rose_after}
use Rattle.loader_core.proofs.LeavesLemmas.{goes_on_after}
use Rattle.loader_core.proofs.loader.boot_entry.Goals as goal

pub returns-in-Ok-clause-report : goal.returns-in-Ok-clause-report
returns-in-Ok-clause-report g c =
    let machine = machine_of g.D.Disks c.args.disks.now in
    let entry = descriptor_view c.args.entry.now in
    let same = c.in-Ok.ensures.reads.same in
    let rest = rw (same.same_past, same.same_size, same.same_geometry) at c.boot_texts.ensures.report in
    let P : Report → Type 0 = λ report. ReportsBy g.D.Disks g.O.Sink report c.boot_texts.result c.boot_texts.new.phase
    (c.args.disks.now, c.args.ram.now, c.args.out.now) (c.boot_texts.new.disks, c.boot_texts.new.ram, c.boot_texts.new.out) in
    told_both (g.D.Disks.past c.args.disks.now) _ _ _
    (λ now texts report.
    subst P (sym (texts_same now machine (slot_view c.args.at.now.slot) (line_view c.args.at.now.line) entry (picked_view c.args.pick.picked c.args.pick.words.now) c.args.pick.picked.lock c.args.pick.lock_line.now (length c.args.ram.now) c.in-Ok.texts texts))
    (reported_after g.D.Disks g.O.Sink c.args.disks.now c.read_texts.new.disks c.boot_texts.new.disks _ c.boot_texts.result c.boot_texts.new.phase c.args.ram.now c.boot_texts.new.ram c.args.out.now c.boot_texts.new.out same c.in-Ok.ensures.reads.later report))
    c.in-Ok.ensures.texts rest

pub returns-in-Err-clause-report : goal.returns-in-Err-clause-report
returns-in-Err-clause-report g c =
    let machine = machine_of g.D.Disks c.args.disks.now in
    let entry = descriptor_view c.args.entry.now in
    let picked = picked_view c.args.pick.picked c.args.pick.words.now in
    let error = rw c.halt_text.ensures at c.put.ensures.shown in
    told_map (g.D.Disks.past c.args.disks.now) _ _
    (λ now texts. record {
      reports = texts_halted now machine entry picked _ (length c.args.ram.now) c.in-Err.halt (memory_of c.args.ram.now) c.args.ram.now
          (sink_of g.O.Sink c.args.out.now) (sink_of g.O.Sink c.put.new.self) texts error;
      leaves = read_leaves g.D.Disks c.args.disks.now c.read_texts.new.disks _ c.in-Err.halt c.args.phase.now c.in-Err.ensures.reads.same (λ is. c.in-Err.ensures.reads.failed (ap Err is)) c.requires.begins
          (λ reason is. texts_unwritten now machine entry picked _ (length c.args.ram.now) c.in-Err.halt reason is texts);
    })
    c.in-Err.ensures.texts

pub returns-in-Ok-clause-only : goal.returns-in-Ok-clause-only
returns-in-Ok-clause-only g c =
    let reads = c.in-Ok.ensures.reads in
    let only = c.boot_texts.ensures.only in
    record {
      keeps = goes_on_after g.D.Disks c.args.disks.now c.read_texts.new.disks c.boot_texts.new.disks reads.same reads.later only.keeps;
      failed = λ failed. rose_after _ _ _ reads.later (only.failed failed);
      sink = only.sink;
      same_reference = only.same_reference;
    }

pub returns-in-Err-clause-only : goal.returns-in-Err-clause-only
returns-in-Err-clause-only g c =
    let reads = c.in-Err.ensures.reads in
    record {
      keeps = goes_on_read g.D.Disks c.args.disks.now c.read_texts.new.disks reads.same reads.later;
      failed = λ failed. reads.failed (let is : c.in-Err.halt ≡ Device = cc in ap Err is);
      sink = search rules;
      same_reference = c.put.ensures.same_reference;
    }
