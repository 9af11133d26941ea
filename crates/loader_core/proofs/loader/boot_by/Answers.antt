use Rattle.std.proofs.Common.{◌≡◌, ◌∙◌, length, sym, Ok, Err}
use Rattle.sector_address.specs.Machine.{machine_of}
use Rattle.bios_model.specs.Memory.{memory_of}
use Rattle.boot_map.specs.View.{boot_view, map_fault_view}
use Rattle.stream_trait.specs.Shows.{sink_of}
use Rattle.disk_trait.proofs.ToldLemmas.{told_all, told_map, told_both}
use Rattle.loader_core.specs.Report.{report_by}
use Rattle.loader_core.specs.Start.{span_view, unasked}
use Rattle.loader_core.proofs.BootLemmas.{read_failed, boot_lost, boot_read, boot_written, keys_map, keys_still, went_unasked, other_left, other_unwritten, on_ok}
use Rattle.loader_core.proofs.LeavesLemmas.{leaves_as, leaves_after, read_leaves, other_leaves}
use Rattle.disk_trait.specs.Calls.{SameOf}
use Rattle.section_loader.specs.declared.reason.Halt.TheVariants.{Device}
use Rattle.bios_model.proofs.WriteLemmas.{goes_on_read}
use Rattle.std.proofs.Common.{refl, arith, rules}
use Rattle.lilo_model.proofs.RoseLemmas.{rose_after}
use Rattle.loader_core.proofs.LeavesLemmas.{goes_on_after, lost_unasked, heard_unasked}
use Rattle.loader_core.proofs.loader.boot_by.Goals as goal

pub returns-then-is_err-clause-went : goal.returns-then-is_err-clause-went
returns-then-is_err-clause-went g c =
    let machine = machine_of g.D.Disks c.args.bios.now.disks.now in
    let rose = read_failed (g.D.Disks.size_of c.args.bios.now.disks.now c.args.device.disk) c.args.device.start (g.D.Disks.faults c.args.bios.now.disks.now) (g.D.Disks.faults c.read.new.self) c.read.result c.read.ensures.cause c.requires.device (sym c.is_err.ensures.value ∙ c.if-is_err.true) in
    let same : SameOf g.D.Disks c.args.bios.now.disks.now c.read.new.self = record { same_past = c.read.ensures.past; same_size = c.read.ensures.size; same_count = c.read.ensures.count; same_geometry = c.read.ensures.geometry } in
    told_all (g.D.Disks.past c.args.bios.now.disks.now) _
    (λ now. keys_still g.I.Source _ _
    (λ left. (
      read_leaves g.D.Disks c.args.bios.now.disks.now c.read.new.self _ Device c.args.phase.now same (λ is. rose) c.requires.begins (λ reason is. let h : ⊥ = cc in absurd h),
      boot_lost now machine (span_view c.args.device) (length c.args.ram.now) (memory_of c.args.ram.now) c.args.ram.now left (sink_of g.O.Sink c.args.out.now),
    )))

pub returns-in-Ok-clause-went : goal.returns-in-Ok-clause-went
returns-in-Ok-clause-went g c =
    let machine = machine_of g.D.Disks c.args.bios.now.disks.now in
    let same : SameOf g.D.Disks c.args.bios.now.disks.now c.read.new.self = record { same_past = c.read.ensures.past; same_size = c.read.ensures.size; same_count = c.read.ensures.count; same_geometry = c.read.ensures.geometry } in
    let here = on_ok c.read.result _ (sym c.is_err.ensures.value ∙ c.if-is_err.false) c.read.ensures.bytes in
    let rest = rw (c.read.ensures.past, c.read.ensures.size, c.read.ensures.geometry) at c.boot_map.ensures.went in
    told_both (g.D.Disks.past c.args.bios.now.disks.now) (λ now. c.read.new.into ≡ now c.args.device.disk c.args.device.start) _ _
    (λ now here goes. keys_map g.I.Source _ _ _
    (λ keys left went. (
      leaves_as g.D.Disks c.args.bios.now.disks.now c.boot_map.new.bios.disks.now c.boot_map.result c.boot_map.new.phase _ _
          (boot_written now machine (span_view c.args.device) (length c.args.ram.now) c.read.new.into (Ok (boot_view c.in-Ok.boot)) keys here c.in-Ok.ensures.read)
          (leaves_after g.D.Disks c.args.bios.now.disks.now c.read.new.self c.boot_map.new.bios.disks.now same c.read.ensures.cause.later _ c.boot_map.result c.boot_map.new.phase went.0),
      boot_read now machine (span_view c.args.device) (length c.args.ram.now) c.read.new.into (Ok (boot_view c.in-Ok.boot)) keys c.boot_map.result (memory_of c.args.ram.now) c.boot_map.new.ram left
          (sink_of g.O.Sink c.args.out.now) (sink_of g.O.Sink c.boot_map.new.out) here c.in-Ok.ensures.read went.1,
    )) goes)
    here rest

pub returns-in-Err-clause-went : goal.returns-in-Err-clause-went
returns-in-Err-clause-went g c =
    let machine = machine_of g.D.Disks c.args.bios.now.disks.now in
    let same : SameOf g.D.Disks c.args.bios.now.disks.now c.read.new.self = record { same_past = c.read.ensures.past; same_size = c.read.ensures.size; same_count = c.read.ensures.count; same_geometry = c.read.ensures.geometry } in
    let here = on_ok c.read.result _ (sym c.is_err.ensures.value ∙ c.if-is_err.false) c.read.ensures.bytes in
    let bytes = c.read.new.into in
    let size = length c.args.ram.now in
    let fault = map_fault_view c.in-Err.fault in
    told_map (g.D.Disks.past c.args.bios.now.disks.now) (λ now. bytes ≡ now c.args.device.disk c.args.device.start) _
    (λ now here. keys_still g.I.Source _ _
    (λ left. rw c.unasked.ensures (
      leaves_as g.D.Disks c.args.bios.now.disks.now c.read.new.self (unasked c.boot_other.result) c.args.phase.now _ _
          (boot_written now machine (span_view c.args.device) size bytes (Err fault) left here c.in-Err.ensures.read)
          (other_leaves g.D.Disks c.args.bios.now.disks.now c.read.new.self _ c.boot_other.result c.args.phase.now (other_unwritten now machine bytes size fault left) same c.boot_other.ensures.device),
      boot_read now machine (span_view c.args.device) size bytes (Err fault) left (unasked c.boot_other.result) (memory_of c.args.ram.now) c.boot_other.new.ram left
          (sink_of g.O.Sink c.args.out.now) (sink_of g.O.Sink c.boot_other.new.out) here c.in-Err.ensures.read
          (went_unasked (report_by now machine bytes size (Err fault) left) c.boot_other.result (memory_of c.args.ram.now) c.boot_other.new.ram left
          (sink_of g.O.Sink c.args.out.now) (sink_of g.O.Sink c.boot_other.new.out) (other_left now machine bytes size fault left) (c.boot_other.ensures.report now machine size left)),
    )))
    here

pub returns-then-is_err-clause-asks : goal.returns-then-is_err-clause-asks
returns-then-is_err-clause-asks g c =
    let rose = read_failed (g.D.Disks.size_of c.args.bios.now.disks.now c.args.device.disk) c.args.device.start (g.D.Disks.faults c.args.bios.now.disks.now) (g.D.Disks.faults c.read.new.self) c.read.result c.read.ensures.cause c.requires.device (sym c.is_err.ensures.value ∙ c.if-is_err.true) in
    let same : SameOf g.D.Disks c.args.bios.now.disks.now c.read.new.self = record { same_past = c.read.ensures.past; same_size = c.read.ensures.size; same_count = c.read.ensures.count; same_geometry = c.read.ensures.geometry } in
    record {
      keeps = goes_on_read g.D.Disks c.args.bios.now.disks.now c.read.new.self same c.read.ensures.cause.later;
      lost = λ lost. rose;
      later = omega arith;
      keys = λ unheard. let h : ⊥ = cc in absurd h;
      sink = search rules;
      same_disks_reference = search rules;
      same_keys_reference = refl;
      same_reference = refl;
    }

pub returns-in-Ok-clause-asks : goal.returns-in-Ok-clause-asks
returns-in-Ok-clause-asks g c =
    let asks = c.boot_map.ensures.asks in
    let later = c.read.ensures.cause.later in
    let same : SameOf g.D.Disks c.args.bios.now.disks.now c.read.new.self = record { same_past = c.read.ensures.past; same_size = c.read.ensures.size; same_count = c.read.ensures.count; same_geometry = c.read.ensures.geometry } in
    record {
      keeps = goes_on_after g.D.Disks c.args.bios.now.disks.now c.read.new.self c.boot_map.new.bios.disks.now same later asks.keeps;
      lost = λ lost. rose_after _ _ _ later (asks.lost lost);
      later = asks.later;
      keys = asks.keys;
      sink = asks.sink;
      same_disks_reference = search rules;
      same_keys_reference = asks.same_keys_reference;
      same_reference = asks.same_reference;
    }

pub returns-in-Err-clause-asks : goal.returns-in-Err-clause-asks
returns-in-Err-clause-asks g c =
    let same : SameOf g.D.Disks c.args.bios.now.disks.now c.read.new.self = record { same_past = c.read.ensures.past; same_size = c.read.ensures.size; same_count = c.read.ensures.count; same_geometry = c.read.ensures.geometry } in
    record {
      keeps = goes_on_read g.D.Disks c.args.bios.now.disks.now c.read.new.self same c.read.ensures.cause.later;
      lost = λ lost. absurd (c.boot_other.ensures.device (lost_unasked c.boot_other.result c.unasked.result c.unasked.ensures lost));
      later = omega arith;
      keys = λ unheard. absurd (heard_unasked c.boot_other.result c.unasked.result c.unasked.ensures unheard);
      sink = c.boot_other.ensures.sink;
      same_disks_reference = search rules;
      same_keys_reference = refl;
      same_reference = c.boot_other.ensures.same_reference;
    }
