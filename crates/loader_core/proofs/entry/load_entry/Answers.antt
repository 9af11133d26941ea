use Rattle.std.proofs.Common.{◌≡◌, length, Ok, Err, rules}
use Rattle.sector_address.specs.Machine.{machine_of}
use Rattle.bios_model.specs.Memory.{memory_of}
use Rattle.boot_map.specs.View.{descriptor_view}
use Rattle.disk_trait.proofs.ToldLemmas.{told_map}
use Rattle.loader_core.specs.Report.{main_rest, initrd_rest, loaded_by}
use Rattle.loader_core.specs.Kernel.{LoadsKernel}
use Rattle.loader_core.proofs.EntryLemmas.{kernel_started, kernel_refused, entry_other, entry_kernel, flag_set, flag_clear}
use Rattle.loader_core.proofs.entry.load_entry.Goals as goal

pub returns-in_err-layout-clause-started : goal.returns-in_err-layout-clause-started
returns-in_err-layout-clause-started g c =
    let machine = machine_of g.D.Disks c.args.disks.now in
    let entry = descriptor_view c.args.entry.now in
    let halt = c.in_err-layout.field-0.0 in
    let is : c.from_residual.result ≡ Err halt = search rules in
    told_map (g.D.Disks.past c.args.disks.now)
    (λ now. LoadsKernel (Err halt) (loaded_by entry (main_rest now machine entry) (initrd_rest now machine entry) c.args.line.now c.args.video (length c.args.ram.now)) (memory_of c.args.ram.now) c.load_kernel.new.ram) _
    (λ now loaded. rw (is, entry_kernel now machine entry c.args.line.now c.args.video (length c.args.ram.now) (flag_clear c.args.entry.now.flags c.if-entry-eq0.true)) (kernel_refused _ (memory_of c.args.ram.now) c.load_kernel.new.ram halt loaded))
    c.in_err-layout.ensures.loaded

pub returns-in_ok-layout-clause-started : goal.returns-in_ok-layout-clause-started
returns-in_ok-layout-clause-started g c =
    let machine = machine_of g.D.Disks c.args.disks.now in
    let entry = descriptor_view c.args.entry.now in
    told_map (g.D.Disks.past c.args.disks.now)
    (λ now. LoadsKernel (Ok c.in_ok-layout.layout) (loaded_by entry (main_rest now machine entry) (initrd_rest now machine entry) c.args.line.now c.args.video (length c.args.ram.now)) (memory_of c.args.ram.now) c.load_kernel.new.ram) _
    (λ now loaded. rw (entry_kernel now machine entry c.args.line.now c.args.video (length c.args.ram.now) (flag_clear c.args.entry.now.flags c.if-entry-eq0.true)) (kernel_started c.in_ok-layout.layout _ (memory_of c.args.ram.now) c.load_kernel.new.ram loaded))
    c.in_ok-layout.ensures.loaded

pub returns-else-entry-eq0-clause-started : goal.returns-else-entry-eq0-clause-started
returns-else-entry-eq0-clause-started g c =
    let machine = machine_of g.D.Disks c.args.disks.now in
    let entry = descriptor_view c.args.entry.now in
    told_map (g.D.Disks.past c.args.disks.now) _ _
    (λ now started. rw (entry_other now machine entry c.args.line.now c.args.video (length c.args.ram.now) (flag_set c.args.entry.now.flags c.if-entry-eq0.false)) started)
    c.load_other.ensures.started
