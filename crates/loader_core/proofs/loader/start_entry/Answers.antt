use Rattle.std.proofs.Common.{◌++◌, length}
use Rattle.std.specs.Prelude.{codes}
use Rattle.sector_address.specs.Machine.{machine_of}
use Rattle.bios_model.specs.Memory.{memory_of}
use Rattle.boot_map.specs.View.{descriptor_view}
use Rattle.stream_trait.specs.Shows.{sink_of}
use Rattle.disk_trait.proofs.ToldLemmas.{told_map}
use Rattle.loader_core.specs.Report.{entry_report, entry_by}
use Rattle.loader_core.proofs.BootLemmas.{entry_started, entry_halted}
use Rattle.loader_core.proofs.loader.start_entry.Goals as goal

pub returns-in-Ok-clause-report : goal.returns-in-Ok-clause-report
unfolding entry_report
returns-in-Ok-clause-report g c =
    let machine = machine_of g.D.Disks c.args.disks.now in
    let entry = descriptor_view c.args.entry.now in
    let text = rw (c.as_slice-2.ensures.value, c.loading_line.ensures, c.as_slice.ensures.value) at c.put.ensures.shown in
    told_map (g.D.Disks.past c.args.disks.now) _ _
    (λ now starts. entry_started (codes "Loading " ++ (entry.name ++ codes "\n")) (entry_by now machine entry c.args.line.now c.args.video (length c.args.ram.now)) c.in-Ok.started (memory_of c.args.ram.now) c.load_entry.new.ram
    (sink_of g.O.Sink c.args.out.now) (sink_of g.O.Sink c.put.new.self) text starts)
    c.in-Ok.ensures.started

pub returns-in-Err-clause-report : goal.returns-in-Err-clause-report
unfolding entry_report
returns-in-Err-clause-report g c =
    let machine = machine_of g.D.Disks c.args.disks.now in
    let entry = descriptor_view c.args.entry.now in
    let text = rw (c.as_slice-2.ensures.value, c.loading_line.ensures, c.as_slice.ensures.value) at c.put.ensures.shown in
    let error = rw c.halt_text.ensures at c.put-in-Err.ensures.shown in
    told_map (g.D.Disks.past c.args.disks.now) _ _
    (λ now starts. entry_halted (codes "Loading " ++ (entry.name ++ codes "\n")) (entry_by now machine entry c.args.line.now c.args.video (length c.args.ram.now)) c.in-Err.halt (memory_of c.args.ram.now) c.load_entry.new.ram
    (sink_of g.O.Sink c.args.out.now) (sink_of g.O.Sink c.put.new.self) (sink_of g.O.Sink c.put-in-Err.new.self) text error starts)
    c.in-Err.ensures.started
