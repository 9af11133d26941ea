-- The device lies here, or isn't found.
use Rattle.std.proofs.Common.{ap, Err}
use Rattle.std.specs.Prelude.{option_map}
use Rattle.mbr_table.specs.View.{device_view, span_view}
use Rattle.lilo_model.specs.ConfVerdict.{place_at}
use Rattle.sector_address.specs.Machine.{machine_of}
use Rattle.disk_trait.proofs.ToldLemmas.{told_map, told_both}
use Rattle.lilo_run.proofs.BackupLemmas.{back_unplaced, back_placed}
use Rattle.bios_model.proofs.WriteLemmas.{goes_on_read}
use Rattle.lilo_model.proofs.RoseLemmas.{rose_after}
use Rattle.loader_core.proofs.LeavesLemmas.{goes_on_after}
use Rattle.std.proofs.Common.{rules}
use Rattle.lilo_run.proofs.RunLemmas.{plain_lost}
use Rattle.lilo_run.proofs.backup.put_back.Goals as goal

pub returns-in-Ok-clause-does : goal.returns-in-Ok-clause-does
returns-in-Ok-clause-does g c =
    let machine = machine_of g.D.Disks c.args.disks.now in
    let device = device_view c.args.device in
    let same = c.in-Ok.ensures.reads.same in λ memory.
    told_both (g.D.Disks.past c.args.disks.now) _ _ _
    (λ now is carries keys key_faults. back_placed g.D.Disks c.put_back_in.result keys _ _ now machine (option_map device_view c.args.root) device (place_at now machine device) (span_view c.in-Ok.span) c.args.disks.now is same c.in-Ok.ensures.reads.later (carries keys key_faults))
    c.in-Ok.ensures.place (rw (same.same_past, same.same_size, same.same_geometry) at (c.put_back_in.ensures.does memory))

pub returns-in-Err-clause-does : goal.returns-in-Err-clause-does
returns-in-Err-clause-does g c =
    let machine = machine_of g.D.Disks c.args.disks.now in
    let device = device_view c.args.device in λ memory.
    told_map (g.D.Disks.past c.args.disks.now) _ _
    (λ now halts keys key_faults. back_unplaced g.D.Disks c.say.result keys _ _ now machine (option_map device_view c.args.root) device (place_at now machine device) c.in-Err.halt halts c.in-Err.ensures.reads.same
    (λ is. c.in-Err.ensures.reads.failed (ap Err is))
    c.say.ensures.status c.say.ensures.some c.say.ensures.shown)
    c.in-Err.ensures.place

pub returns-in-Ok-clause-only : goal.returns-in-Ok-clause-only
returns-in-Ok-clause-only g c =
    let reads = c.in-Ok.ensures.reads in
    let only = c.put_back_in.ensures.only in
    record {
      keeps = goes_on_after g.D.Disks c.args.disks.now c.find_device.new.disks c.put_back_in.new.disks reads.same reads.later only.keeps;
      failed = λ lost. rose_after _ _ _ reads.later (only.failed lost);
      sink = only.sink;
      same_reference = only.same_reference;
    }

pub returns-in-Err-clause-only : goal.returns-in-Err-clause-only
returns-in-Err-clause-only g c =
    let reads = c.in-Err.ensures.reads in
    record {
      keeps = goes_on_read g.D.Disks c.args.disks.now c.find_device.new.disks reads.same reads.later;
      failed = λ lost. reads.failed (ap Err (c.say.ensures.device (plain_lost c.say.result lost c.say.ensures.known)));
      sink = search rules;
      same_reference = c.say.ensures.same_reference;
    }
