-- The device that the configuration boots is looked for first.
use Rattle.std.proofs.Common.{refl}
use Rattle.std.specs.Prelude.{option_map}
use Rattle.mbr_table.specs.View.{device_view}
use Rattle.sector_address.specs.Machine.{machine_of}
use Rattle.lilo_model.specs.ConfVerdict.{conf_device}
use Rattle.lilo_run.specs.Verdict.{line_verdict, line_by, line_effect}
use Rattle.disk_trait.proofs.ToldLemmas.{told_map, told_both}
use Rattle.lilo_run.proofs.ConfLemmas.{conf_refused, conf_lost}
use Rattle.lilo_run.proofs.ShotLemmas.{shot_refused, shot_booted}
use Rattle.bios_model.proofs.WriteLemmas.{goes_on_read}
use Rattle.lilo_model.proofs.RoseLemmas.{rose_after}
use Rattle.loader_core.proofs.LeavesLemmas.{goes_on_after}
use Rattle.std.proofs.Common.{rules}
use Rattle.lilo_run.proofs.RunLemmas.{conf_part_lost}
use Rattle.lilo_run.proofs.line.put_line.Goals as goal

pub returns-in-Ok-clause-does : goal.returns-in-Ok-clause-does
returns-in-Ok-clause-does g c =
    let same = c.boot_device.ensures.same in λ memory.
    told_both (g.D.Disks.past c.args.disks.now) _ _ _
    (λ now is carries keys key_faults. shot_booted g.D.Disks c.args.text.now c.put_line_on.result keys _ _ now _ _ c.args.path.now (device_view c.in-Ok.device) c.args.disks.now is same c.boot_device.ensures.later (carries keys key_faults))
    c.in-Ok.ensures.device (rw (same.same_past, same.same_size, same.same_geometry) at (c.put_line_on.ensures.does memory))

pub returns-in-Err-clause-does : goal.returns-in-Err-clause-does
unfolding line_effect
returns-in-Err-clause-does g c =
    let machine = machine_of g.D.Disks c.args.disks.now in λ memory.
    told_map (g.D.Disks.past c.args.disks.now) _ _
    (λ now refuses keys key_faults. shot_refused g.D.Disks c.args.text.now c.say_conf.result keys _ _
    (line_by now machine c.args.text.now (conf_device now machine (option_map device_view c.args.root) c.args.path.now)) c.boot_device.ensures.same
    (λ eight. conf_lost c.args.path.now c.say_conf.result _ _ eight c.in-Err.halt c.in-Err.ensures.cause c.say_conf.ensures.status) c.say_conf.ensures.some
    (conf_refused (λ given. line_verdict (line_by now machine c.args.text.now given)) (λ refusal. refl) c.args.path.now c.in-Err.halt
    (conf_device now machine (option_map device_view c.args.root) c.args.path.now) c.say_conf.result memory _ _ refuses c.say_conf.ensures.status c.say_conf.ensures.some c.say_conf.ensures.shown))
    c.in-Err.ensures.device

pub returns-in-Ok-clause-only : goal.returns-in-Ok-clause-only
returns-in-Ok-clause-only g c =
    let only = c.put_line_on.ensures.only in
    record {
      keeps = goes_on_after g.D.Disks c.args.disks.now c.boot_device.new.disks c.put_line_on.new.disks c.boot_device.ensures.same c.boot_device.ensures.later only.keeps;
      failed = λ lost. rose_after _ _ _ c.boot_device.ensures.later (only.failed lost);
      sink = only.sink;
      same_reference = only.same_reference;
    }

pub returns-in-Err-clause-only : goal.returns-in-Err-clause-only
returns-in-Err-clause-only g c = record {
  keeps = goes_on_read g.D.Disks c.args.disks.now c.boot_device.new.disks c.boot_device.ensures.same c.boot_device.ensures.later;
  failed =
      λ lost. conf_lost c.args.path.now c.say_conf.result _ _ (conf_part_lost c.say_conf.result lost c.say_conf.ensures.known) c.in-Err.halt c.in-Err.ensures.cause c.say_conf.ensures.status;
  sink = search rules;
  same_reference = c.say_conf.ensures.same_reference;
}
