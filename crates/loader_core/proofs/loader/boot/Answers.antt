use Rattle.std.proofs.Common.{length}
use Rattle.sector_address.specs.Machine.{machine_of}
use Rattle.bios_model.specs.Memory.{memory_of}
use Rattle.stream_trait.specs.Shows.{sink_of}
use Rattle.disk_trait.proofs.ToldLemmas.{told_map}
use Rattle.lilo_model.specs.Boot.{whole_boot}
use Rattle.loader_core.specs.Report.{boot_report, boot_write}
use Rattle.loader_core.specs.Start.{span_view}
use Rattle.loader_core.proofs.BootLemmas.{boots_so, keys_map}
use Rattle.loader_core.proofs.LeavesLemmas.{leaves_so}
use Rattle.loader_core.proofs.ReportLemmas.{report_law}
use Rattle.loader_core.proofs.loader.boot.Goals as goal

pub returns-clause-report : goal.returns-clause-report
returns-clause-report g c =
    told_map (g.D.Disks.past c.args.bios.now.disks.now) _ _
    (λ now goes. keys_map g.I.Source _ _ _
    (λ keys left went. (
      leaves_so g.D.Disks c.args.bios.now.disks.now c.boot_by-end.new.bios.disks.now _ c.outcome_of.result c.boot_by-end.result c.boot_by-end.new.phase c.outcome_of.ensures.end c.outcome_of.ensures.phase went.0,
      rw c.outcome_of.ensures.end went.1,
    ))
    goes)
    c.boot_by-end.ensures.went

pub returns-clause-boot : goal.returns-clause-boot
returns-clause-boot g c =
    let machine = machine_of g.D.Disks c.args.bios.now.disks.now in
    let span = span_view c.args.device in
    let size = length c.args.ram.now in
    told_map (g.D.Disks.past c.args.bios.now.disks.now) _ _
    (λ now goes. keys_map g.I.Source _ _ _
    (λ keys left went.
    boots_so g.D.Disks c.args.bios.now.disks.now c.boot_by-end.new.bios.disks.now c.outcome_of.result (boot_report now machine span size keys) (whole_boot now machine span keys size) (boot_write now machine span) (memory_of c.args.ram.now) c.boot_by-end.new.ram left
    (sink_of g.O.Sink c.args.out.now) (sink_of g.O.Sink c.boot_by-end.new.out) (report_law now machine span keys size)
    (leaves_so g.D.Disks c.args.bios.now.disks.now c.boot_by-end.new.bios.disks.now _ c.outcome_of.result c.boot_by-end.result c.boot_by-end.new.phase c.outcome_of.ensures.end c.outcome_of.ensures.phase went.0)
    (rw c.outcome_of.ensures.end went.1))
    goes)
    c.boot_by-end.ensures.went
