-- Where a device lies is found first.
use Rattle.std.proofs.Common.{false, length, refl, ap, Err, arith, rules}
use Rattle.sector_address.specs.Machine.{machine_of}
use Rattle.mbr_table.specs.View.{device_view, span_view}
use Rattle.lilo_model.specs.ConfVerdict.{place_at}
use Rattle.lilo_model.proofs.RoseLemmas.{rose_after}
use Rattle.disk_trait.proofs.ToldLemmas.{told_map, told_both}
use Rattle.bios_model.proofs.WriteLemmas.{goes_on_read}
use Rattle.loader_core.proofs.BootLemmas.{keys_still}
use Rattle.loader_core.proofs.LeavesLemmas.{goes_on_after}
use Rattle.lilo_run.specs.Run.{state_of}
use Rattle.lilo_run.proofs.EffectLemmas.{place_failed}
use Rattle.lilo_run.proofs.RunLemmas.{plain_lost, plain_heard}
use Rattle.boot_second.proofs.SecondLemmas.{place_booted}
use Rattle.boot_second.proofs.boot.boot_second.Goals as goal

pub returns-in-Ok-clause-boots : goal.returns-in-Ok-clause-boots
returns-in-Ok-clause-boots g c =
    let machine = machine_of g.D.Disks c.args.bios.now.disks.now in
    let same = c.in-Ok.ensures.reads.same in
    let rest = rw (same.same_past, same.same_size, same.same_geometry) at c.boot_span.ensures.boots in
    told_both (g.D.Disks.past c.args.bios.now.disks.now) _ _ _
    (λ now place goes. place_booted g.D.Disks g.I.Source g.R.Sink now machine (length c.args.ram.now) (place_at now machine (device_view c.args.device)) (span_view c.in-Ok.span) c.boot_span.result
    (c.args.bios.now.keys.now, c.boot_span.new.bios.keys.now) c.args.bios.now.disks.now
    (state_of g.I.Source g.O.Sink (c.find_device.new.disks, c.args.bios.now.keys.now, c.args.ram.now, c.args.out.now))
    (state_of g.I.Source g.O.Sink (c.boot_span.new.bios.disks.now, c.boot_span.new.bios.keys.now, c.boot_span.new.ram, c.boot_span.new.out))
    c.boot_span.new.ram c.args.to.now c.boot_span.new.to
    place same c.in-Ok.ensures.reads.later goes)
    c.in-Ok.ensures.place rest

pub returns-in-Err-clause-boots : goal.returns-in-Err-clause-boots
returns-in-Err-clause-boots g c =
    let machine = machine_of g.D.Disks c.args.bios.now.disks.now in
    told_map (g.D.Disks.past c.args.bios.now.disks.now) _ _
    (λ now halts. keys_still g.I.Source c.args.bios.now.keys.now _
    (λ keys. (
      (place_failed g.D.Disks now machine (length c.args.ram.now) false keys c.say.result
          (state_of g.I.Source g.O.Sink (c.args.bios.now.disks.now, c.args.bios.now.keys.now, c.args.ram.now, c.args.out.now))
          (state_of g.I.Source g.O.Sink (c.find_device.new.disks, c.args.bios.now.keys.now, c.args.ram.now, c.say.new.out))
          c.in-Err.ensures.reads.same refl (place_at now machine (device_view c.args.device)) c.in-Err.halt halts (λ is. c.in-Err.ensures.reads.failed (ap Err is)) c.say.ensures.status c.say.ensures.some c.say.ensures.shown).does,
      λ zero. absurd (let some = c.say.ensures.some in omega (arith, zero, some)),
    )))
    c.in-Err.ensures.place

pub returns-in-Ok-clause-asks : goal.returns-in-Ok-clause-asks
returns-in-Ok-clause-asks g c =
    let reads = c.in-Ok.ensures.reads in
    let asks = c.boot_span.ensures.asks in
    record {
      keeps = goes_on_after g.D.Disks c.args.bios.now.disks.now c.find_device.new.disks c.boot_span.new.bios.disks.now reads.same reads.later asks.keeps;
      lost = λ lost. rose_after _ _ _ reads.later (asks.lost lost);
      later = asks.later;
      keys = asks.keys;
      sink = asks.sink;
      same_disks_reference = search rules;
      same_keys_reference = asks.same_keys_reference;
      same_reference = asks.same_reference;
    }

pub returns-in-Err-clause-asks : goal.returns-in-Err-clause-asks
returns-in-Err-clause-asks g c =
    let reads = c.in-Err.ensures.reads in
    record {
      keeps = goes_on_read g.D.Disks c.args.bios.now.disks.now c.find_device.new.disks reads.same reads.later;
      lost = λ lost. reads.failed (ap Err (c.say.ensures.device (plain_lost c.say.result lost c.say.ensures.known)));
      later = omega arith;
      keys = λ unheard. absurd (plain_heard c.say.result c.say.ensures.known unheard);
      sink = search rules;
      same_disks_reference = search rules;
      same_keys_reference = refl;
      same_reference = c.say.ensures.same_reference;
    }
