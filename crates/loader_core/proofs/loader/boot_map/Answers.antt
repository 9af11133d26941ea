use Rattle.std.proofs.Common.{length, ap, Err}
use Rattle.sector_address.specs.Machine.{machine_of}
use Rattle.bios_model.specs.Memory.{memory_of}
use Rattle.boot_map.specs.View.{boot_view}
use Rattle.stream_trait.specs.Shows.{sink_of}
use Rattle.disk_trait.proofs.ToldLemmas.{told_map, told_both}
use Rattle.loader_core.proofs.BootLemmas.{map_found, map_halted, map_write, map_unwritten, keys_map, keys_still}
use Rattle.loader_core.proofs.LeavesLemmas.{leaves_as, leaves_after, read_leaves}
use Rattle.bios_model.proofs.WriteLemmas.{goes_on_read}
use Rattle.std.proofs.Common.{◌≡◌, refl, arith, rules}
use Rattle.section_loader.specs.declared.reason.Halt.TheVariants.{Device}
use Rattle.lilo_model.proofs.RoseLemmas.{rose_after}
use Rattle.loader_core.proofs.LeavesLemmas.{goes_on_after}
use Rattle.loader_core.proofs.loader.boot_map.Goals as goal

pub returns-in-Ok-clause-went : goal.returns-in-Ok-clause-went
returns-in-Ok-clause-went g c =
    let machine = machine_of g.D.Disks c.args.bios.now.disks.now in
    let same = c.in-Ok.ensures.reads.same in
    let rest = rw (same.same_past, same.same_size, same.same_geometry) at c.boot_parts.ensures.went in
    told_both (g.D.Disks.past c.args.bios.now.disks.now) _ _ _
    (λ now found went. keys_map g.I.Source _ _ _
    (λ keys left went. (
      leaves_as g.D.Disks c.args.bios.now.disks.now c.boot_parts.new.bios.disks.now c.boot_parts.result c.boot_parts.new.phase _ _
          (map_write now machine (boot_view c.args.boot.now) (length c.args.ram.now) found.sectors keys found.is)
          (leaves_after g.D.Disks c.args.bios.now.disks.now c.read_map.new.disks c.boot_parts.new.bios.disks.now same c.in-Ok.ensures.reads.later _ c.boot_parts.result c.boot_parts.new.phase went.0),
      map_found now machine (boot_view c.args.boot.now) (length c.args.ram.now) found.sectors keys c.boot_parts.result (memory_of c.args.ram.now) c.boot_parts.new.ram left
          (sink_of g.O.Sink c.args.out.now) (sink_of g.O.Sink c.put.new.self) (sink_of g.O.Sink c.boot_parts.new.out) found.is c.put.ensures.shown went.1,
    ))
    (went found.sectors found.stands))
    c.in-Ok.ensures.parts rest

pub returns-in-Err-clause-went : goal.returns-in-Err-clause-went
returns-in-Err-clause-went g c =
    let machine = machine_of g.D.Disks c.args.bios.now.disks.now in
    let error = rw c.map_text.ensures at c.put-in-Err.ensures.shown in
    told_map (g.D.Disks.past c.args.bios.now.disks.now) _ _
    (λ now found. keys_still g.I.Source _ _
    (λ left. (
      read_leaves g.D.Disks c.args.bios.now.disks.now c.read_map.new.disks _ c.in-Err.halt c.args.phase.now c.in-Err.ensures.reads.same (λ is. c.in-Err.ensures.reads.failed (ap Err is)) c.requires.begins
          (λ reason is. map_unwritten now machine (boot_view c.args.boot.now) (length c.args.ram.now) c.in-Err.halt reason left is found),
      map_halted now machine (boot_view c.args.boot.now) (length c.args.ram.now) c.in-Err.halt (memory_of c.args.ram.now) c.args.ram.now left
          (sink_of g.O.Sink c.args.out.now) (sink_of g.O.Sink c.put.new.self) (sink_of g.O.Sink c.put-in-Err.new.self) found c.put.ensures.shown error,
    )))
    c.in-Err.ensures.parts

pub returns-in-Ok-clause-asks : goal.returns-in-Ok-clause-asks
returns-in-Ok-clause-asks g c =
    let reads = c.in-Ok.ensures.reads in
    let asks = c.boot_parts.ensures.asks in
    record {
      keeps = goes_on_after g.D.Disks c.args.bios.now.disks.now c.read_map.new.disks c.boot_parts.new.bios.disks.now reads.same reads.later asks.keeps;
      lost = λ lost. rose_after _ _ _ reads.later (asks.lost lost);
      later = asks.later;
      keys = asks.keys;
      sink = search rules;
      same_disks_reference = search rules;
      same_keys_reference = asks.same_keys_reference;
      same_reference = search rules;
    }

pub returns-in-Err-clause-asks : goal.returns-in-Err-clause-asks
returns-in-Err-clause-asks g c =
    let reads = c.in-Err.ensures.reads in
    record {
      keeps = goes_on_read g.D.Disks c.args.bios.now.disks.now c.read_map.new.disks reads.same reads.later;
      lost = λ lost. reads.failed (let is : c.in-Err.halt ≡ Device = cc in ap Err is);
      later = omega arith;
      keys = λ unheard. let h : ⊥ = cc in absurd h;
      sink = search rules;
      same_disks_reference = search rules;
      same_keys_reference = refl;
      same_reference = search rules;
    }
