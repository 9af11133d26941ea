use Rattle.std.proofs.Common.{length, subst, Err}
use Rattle.sector_address.specs.Machine.{machine_of}
use Rattle.sector_address.specs.View.{slot_view}
use Rattle.boot_map.specs.View.{descriptor_view, line_view}
use Rattle.loader_core.specs.Leaves.{LineWritten}
use Rattle.loader_core.specs.Report.{line_write}
use Rattle.disk_trait.proofs.ToldLemmas.{told_all}
use Rattle.loader_core.specs.View.{picked_view}
use Rattle.loader_core.proofs.BootLemmas.{line_halted, line_loaded}
use Rattle.loader_core.proofs.loader.boot_texts.Goals as goal

pub returns-in-Ok-clause-report : goal.returns-in-Ok-clause-report
returns-in-Ok-clause-report g c =
    let machine = machine_of g.D.Disks c.args.disks.now in
    let entry = descriptor_view c.args.entry.now in
    let picked = picked_view c.args.pick.picked c.args.pick.words.now in
    let goes = c.in-Ok.ensures.goes_on in
    let written = rw (c.new_line-new.ensures, c.is_locked.ensures, c.as_slice.ensures.value) at c.in-Ok.ensures.line in
    let report = rw (goes.size, goes.geometry) at c.boot_line.ensures.report in
    line_loaded g.D.Disks g.O.Sink c.args.disks.now c.write_line.new.disks c.boot_line.new.disks machine entry picked _ (length c.args.ram.now) c.args.texts.middle.items c.boot_line.result c.write_line.new.phase c.args.ram.now c.boot_line.new.ram c.args.out.now c.boot_line.new.out
    written goes.later c.boot_line.ensures.only.reads report

pub returns-in-Err-clause-report : goal.returns-in-Err-clause-report
returns-in-Err-clause-report g c =
    let machine = machine_of g.D.Disks c.args.disks.now in
    let entry = descriptor_view c.args.entry.now in
    let picked = picked_view c.args.pick.picked c.args.pick.words.now in
    let error = rw c.halt_text.ensures at c.put.ensures.shown in
    let is = rw (c.is_locked.ensures, c.as_slice.ensures.value) at c.new_line-new.ensures in
    let written = subst
    (λ new. LineWritten g.D.Disks c.args.disks.now c.write_line.new.disks (line_write machine (slot_view c.args.at.now.slot) (line_view c.args.at.now.line) new) (Err c.in-Err.halt) c.write_line.new.phase)
    is c.in-Err.ensures.line in
    told_all (g.D.Disks.past c.args.disks.now) _
    (λ now. line_halted g.D.Disks g.O.Sink c.args.disks.now c.write_line.new.disks now machine entry picked _ (length c.args.ram.now) c.args.texts.middle.items c.in-Err.halt c.write_line.new.phase c.args.ram.now c.args.out.now c.put.new.self written error)
