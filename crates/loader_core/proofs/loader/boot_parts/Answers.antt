use Rattle.std.proofs.Common.{length}
use Rattle.sector_address.specs.Machine.{machine_of}
use Rattle.bios_model.specs.Memory.{memory_of}
use Rattle.boot_map.specs.View.{boot_view}
use Rattle.stream_trait.specs.Shows.{sink_of}
use Rattle.disk_trait.proofs.ToldLemmas.{told_all, told_map}
use Rattle.loader_core.proofs.BootLemmas.{sectors_good, sectors_bad, sectors_write, bad_write, keys_map, keys_still}
use Rattle.loader_core.proofs.LeavesLemmas.{leaves_as, read_leaves, same_self}
use Rattle.section_loader.specs.declared.reason.Halt.TheVariants.{Refused}
use Rattle.std.proofs.Common.{refl, arith, rules}
use Rattle.loader_core.proofs.LeavesLemmas.{goes_on_self}
use Rattle.loader_core.proofs.loader.boot_parts.Goals as goal

pub returns-in-Ok-clause-went : goal.returns-in-Ok-clause-went
returns-in-Ok-clause-went g c =
    let machine = machine_of g.D.Disks c.args.bios.now.disks.now in
    told_map (g.D.Disks.past c.args.bios.now.disks.now) _ _
    (λ now went sectors stands.
    let judged = c.in-Ok.ensures.judged sectors stands in
    keys_map g.I.Source _ _ _
    (λ keys left went. (
      leaves_as g.D.Disks c.args.bios.now.disks.now c.boot_good.new.bios.disks.now c.boot_good.result c.boot_good.new.phase _ _
          (sectors_write now machine (boot_view c.args.boot.now) (length c.args.ram.now) sectors judged.model keys judged.is) went.0,
      sectors_good now machine (boot_view c.args.boot.now) (length c.args.ram.now) sectors judged.model keys c.boot_good.result (memory_of c.args.ram.now) c.boot_good.new.ram left
          (sink_of g.O.Sink c.args.out.now) (sink_of g.O.Sink c.put.new.self) (sink_of g.O.Sink c.boot_good.new.out) judged.is c.put.ensures.shown went.1,
    ))
    (went judged.model judged.parts))
    c.boot_good.ensures.went

pub returns-in-Err-clause-went : goal.returns-in-Err-clause-went
returns-in-Err-clause-went g c =
    let machine = machine_of g.D.Disks c.args.bios.now.disks.now in
    told_all (g.D.Disks.past c.args.bios.now.disks.now) _
    (λ now sectors stands.
    let judged = c.in-Err.ensures.judged sectors stands in
    keys_still g.I.Source _ _
    (λ left. (
      read_leaves g.D.Disks c.args.bios.now.disks.now c.args.bios.now.disks.now _ (Refused c.in-Err.reason) c.args.phase.now (same_self g.D.Disks c.args.bios.now.disks.now) (λ is. let h : ⊥ = cc in absurd h) c.requires.begins
          (λ reason is. bad_write now machine (boot_view c.args.boot.now) (length c.args.ram.now) sectors c.in-Err.reason left judged),
      sectors_bad now machine (boot_view c.args.boot.now) (length c.args.ram.now) sectors c.in-Err.reason (memory_of c.args.ram.now) c.args.ram.now left
          (sink_of g.O.Sink c.args.out.now) (sink_of g.O.Sink c.put.new.self) (sink_of g.O.Sink c.put-in-Err.new.self) judged c.put.ensures.shown c.put-in-Err.ensures.shown,
    )))

pub returns-in-Err-clause-asks : goal.returns-in-Err-clause-asks
returns-in-Err-clause-asks g c = record {
  keeps = goes_on_self g.D.Disks c.args.bios.now.disks.now;
  lost = λ lost. let h : ⊥ = cc in absurd h;
  later = omega arith;
  keys = λ unheard. let h : ⊥ = cc in absurd h;
  sink = search rules;
  same_disks_reference = refl;
  same_keys_reference = refl;
  same_reference = search rules;
}
