use Rattle.std.proofs.Common.{length, ap, Err}
use Rattle.sector_address.specs.Machine.{machine_of}
use Rattle.bios_model.specs.Memory.{memory_of}
use Rattle.boot_map.specs.View.{boot_view}
use Rattle.stream_trait.specs.Shows.{sink_of}
use Rattle.disk_trait.proofs.ToldLemmas.{told_map, told_both}
use Rattle.loader_core.proofs.AskedLemmas.{asked_ok, asked_err, asked_write, asked_leaves}
use Rattle.loader_core.proofs.LeavesLemmas.{leaves_as, leaves_after}
use Rattle.loader_core.specs.Start.{unasked}
use Rattle.loader_core.proofs.BootLemmas.{keys_map}
use Rattle.bios_model.proofs.WriteLemmas.{goes_on_read}
use Rattle.std.proofs.Common.{◌∙◌, arith, rules}
use Rattle.lilo_model.proofs.RoseLemmas.{rose_after}
use Rattle.loader_core.proofs.LeavesLemmas.{goes_on_after, lost_unasked, heard_unasked}
use Rattle.stream_trait.proofs.ShowsLemmas.{has_failed_twice}
use Rattle.loader_core.proofs.loader.boot_asked.Goals as goal

pub returns-in-Ok-clause-went : goal.returns-in-Ok-clause-went
returns-in-Ok-clause-went g c =
    let machine = machine_of g.D.Disks c.args.bios.now.disks.now in
    let boot = boot_view c.args.boot.now in
    let size = length c.args.ram.now in
    let same = c.in-Ok.ensures.only.reads.same in
    let rest = rw (same.same_past, same.same_size, same.same_geometry) at c.boot_chosen.ensures.report in
    told_both (g.D.Disks.past c.args.bios.now.disks.now) _ _ _
    (λ now asked chosen model good.
    let setup = c.prompt_of-prompt.ensures model good.line good.lists.list now machine in
    let message = c.message_of.ensures.message now machine in
    keys_map g.I.Source _ _ _
    (λ keys left comes.
    let heard = rw (setup, message) at comes in
    let report = chosen model good.line good.entries good.lists.long in
    rw c.unasked.ensures (
      leaves_as g.D.Disks c.args.bios.now.disks.now c.boot_chosen.new.disks (unasked c.boot_chosen.result) c.boot_chosen.new.phase _ _
          (asked_write now machine boot model size keys left c.ask.new.prompt.state (sink_of g.O.Sink c.args.out.now) (sink_of g.O.Sink c.ask.new.out) heard)
          (leaves_after g.D.Disks c.args.bios.now.disks.now c.ask.new.bios.disks.now c.boot_chosen.new.disks same c.in-Ok.ensures.only.reads.later _ (unasked c.boot_chosen.result) c.boot_chosen.new.phase report.leaves),
      asked_ok now machine boot model size keys left c.ask.new.prompt.state c.boot_chosen.result (memory_of c.args.ram.now) c.boot_chosen.new.ram
          (sink_of g.O.Sink c.args.out.now) (sink_of g.O.Sink c.ask.new.out) (sink_of g.O.Sink c.boot_chosen.new.out) heard report.reports,
    ))
    asked)
    c.in-Ok.ensures.asked rest

pub returns-in-Err-clause-went : goal.returns-in-Err-clause-went
returns-in-Err-clause-went g c =
    let machine = machine_of g.D.Disks c.args.bios.now.disks.now in
    let boot = boot_view c.args.boot.now in
    let size = length c.args.ram.now in
    let text = rw c.stop_text.ensures at c.put.ensures.shown in
    told_map (g.D.Disks.past c.args.bios.now.disks.now) _ _
    (λ now asked model good.
    let setup = c.prompt_of-prompt.ensures model good.line good.lists.list now machine in
    let message = c.message_of.ensures.message now machine in
    keys_map g.I.Source _ _ _
    (λ keys left comes.
    let heard = rw (setup, message) at comes in (
      asked_leaves g.D.Disks c.args.bios.now.disks.now c.ask.new.bios.disks.now now machine boot model size keys left c.ask.new.prompt.state c.in-Err.stop c.args.phase.now
          (sink_of g.O.Sink c.args.out.now) (sink_of g.O.Sink c.ask.new.out) heard c.in-Err.ensures.only.reads.same (λ is. c.in-Err.ensures.only.reads.failed (ap Err is)) c.requires.begins,
      asked_err now machine boot model size keys left c.ask.new.prompt.state c.in-Err.stop (memory_of c.args.ram.now) c.args.ram.now
          (sink_of g.O.Sink c.args.out.now) (sink_of g.O.Sink c.ask.new.out) (sink_of g.O.Sink c.put.new.self) heard text,
    ))
    asked)
    c.in-Err.ensures.asked

pub returns-in-Ok-clause-asks : goal.returns-in-Ok-clause-asks
returns-in-Ok-clause-asks g c =
    let asks = c.in-Ok.ensures.only in
    let only = c.boot_chosen.ensures.only in
    record {
      keeps = goes_on_after g.D.Disks c.args.bios.now.disks.now c.ask.new.bios.disks.now c.boot_chosen.new.disks asks.reads.same asks.reads.later only.keeps;
      lost = λ lost. rose_after _ _ _ asks.reads.later (only.failed (lost_unasked c.boot_chosen.result c.unasked.result c.unasked.ensures lost));
      later = asks.later;
      keys = λ unheard. absurd (heard_unasked c.boot_chosen.result c.unasked.result c.unasked.ensures unheard);
      sink = has_failed_twice _ _ _ asks.sink only.sink;
      same_disks_reference = search rules;
      same_keys_reference = asks.same_keys_reference;
      same_reference = only.same_reference ∙ asks.same_reference;
    }

pub returns-in-Err-clause-asks : goal.returns-in-Err-clause-asks
returns-in-Err-clause-asks g c =
    let asks = c.in-Err.ensures.only in
    record {
      keeps = goes_on_read g.D.Disks c.args.bios.now.disks.now c.ask.new.bios.disks.now asks.reads.same asks.reads.later;
      lost = λ lost. search rules;
      later = asks.later;
      keys = λ unheard. search rules;
      sink = search rules;
      same_disks_reference = asks.same_disks_reference;
      same_keys_reference = asks.same_keys_reference;
      same_reference = c.put.ensures.same_reference ∙ asks.same_reference;
    }
