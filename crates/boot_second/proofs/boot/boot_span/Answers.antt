-- How the boot ended decides.
use Rattle.std.proofs.Common.{false, length, refl, arith}
use Rattle.sector_address.specs.Machine.{machine_of}
use Rattle.mbr_table.specs.View.{span_view}
use Rattle.stream_trait.specs.Shows.{sink_of}
use Rattle.stream_trait.proofs.ShowsLemmas.{shows_nothing}
use Rattle.disk_trait.proofs.ToldLemmas.{told_map}
use Rattle.lilo_run.specs.Run.{state_of}
use Rattle.lilo_run.proofs.EffectLemmas.{boot_loaded, boot_handed, boot_refused, boot_failed, boot_unheard}
use Rattle.loader_core.specs.Report.{boot_report}
use Rattle.loader_core.proofs.BootLemmas.{keys_map}
use Rattle.boot_second.proofs.SecondLemmas.{started_handed, not_zero}
use Rattle.boot_second.proofs.boot.boot_span.Goals as goal

pub returns-in-Loaded-clause-boots : goal.returns-in-Loaded-clause-boots
returns-in-Loaded-clause-boots g c =
    let old = state_of g.I.Source g.O.Sink (c.args.bios.now.disks.now, c.args.bios.now.keys.now, c.args.ram.now, c.args.out.now) in
    let new = state_of g.I.Source g.O.Sink (c.boot.new.bios.disks.now, c.boot.new.bios.keys.now, c.boot.new.ram, c.boot.new.out) in
    rw c.hand_kernel.ensures.same (told_map (g.D.Disks.past c.args.bios.now.disks.now) _ _
    (λ now goes. keys_map g.I.Source _ _ _
    (λ all left went. (
      (boot_loaded g.D.Disks false _ left old new (sink_of g.O.Sink c.boot.new.out) c.in-Loaded.layout c.boot.new.ram refl went.1 (shows_nothing _) went.0).does,
      λ zero. started_handed (boot_report now (machine_of g.D.Disks c.args.bios.now.disks.now) (span_view c.args.span) (length c.args.ram.now) all) _ _ c.boot.new.ram _ _ went.1.1.starts.is c.hand_kernel.ensures.handed,
    )) goes)
    c.in-Loaded.ensures.report)

pub returns-in-Handed-clause-boots : goal.returns-in-Handed-clause-boots
returns-in-Handed-clause-boots g c =
    let old = state_of g.I.Source g.O.Sink (c.args.bios.now.disks.now, c.args.bios.now.keys.now, c.args.ram.now, c.args.out.now) in
    let new = state_of g.I.Source g.O.Sink (c.boot.new.bios.disks.now, c.boot.new.bios.keys.now, c.boot.new.ram, c.boot.new.out) in
    rw c.hand_sector.ensures.same (told_map (g.D.Disks.past c.args.bios.now.disks.now) _ _
    (λ now goes. keys_map g.I.Source _ _ _
    (λ all left went. (
      (boot_handed g.D.Disks false _ left old new (sink_of g.O.Sink c.boot.new.out) c.boot.new.ram refl went.1 (shows_nothing _) went.0).does,
      λ zero. started_handed (boot_report now (machine_of g.D.Disks c.args.bios.now.disks.now) (span_view c.args.span) (length c.args.ram.now) all) _ _ c.boot.new.ram _ _ went.1.1.starts.is c.hand_sector.ensures.handed,
    )) goes)
    c.in-Handed.ensures.report)

pub returns-in-Refused-clause-boots : goal.returns-in-Refused-clause-boots
returns-in-Refused-clause-boots g c =
    let old = state_of g.I.Source g.O.Sink (c.args.bios.now.disks.now, c.args.bios.now.keys.now, c.args.ram.now, c.args.out.now) in
    let new = state_of g.I.Source g.O.Sink (c.boot.new.bios.disks.now, c.boot.new.bios.keys.now, c.boot.new.ram, c.say.new.out) in
    told_map (g.D.Disks.past c.args.bios.now.disks.now) _ _
    (λ now goes. keys_map g.I.Source _ _ _
    (λ all left went. (
      (boot_refused g.D.Disks false _ left old new (sink_of g.O.Sink c.boot.new.out) c.in-Refused.reason c.say.result c.boot.new.ram went.1
          c.say.ensures.status c.say.ensures.some c.say.ensures.shown went.0).does,
      λ zero. absurd (let some = c.say.ensures.some in omega (arith, zero, some)),
    )) goes)
    c.in-Refused.ensures.report

pub returns-in-Keys-clause-boots : goal.returns-in-Keys-clause-boots
returns-in-Keys-clause-boots g c =
    let old = state_of g.I.Source g.O.Sink (c.args.bios.now.disks.now, c.args.bios.now.keys.now, c.args.ram.now, c.args.out.now) in
    let new = state_of g.I.Source g.O.Sink (c.boot.new.bios.disks.now, c.boot.new.bios.keys.now, c.boot.new.ram, c.say_keys.new.out) in
    told_map (g.D.Disks.past c.args.bios.now.disks.now) _ _
    (λ now goes. keys_map g.I.Source _ _ _
    (λ all left went. (
      (boot_unheard g.D.Disks false _ left old new (sink_of g.O.Sink c.boot.new.out) c.say_keys.result c.boot.new.ram went.1
          c.say_keys.ensures.status c.say_keys.ensures.shown (c.boot.ensures.asks.keys c.in-Keys.is) went.0).does,
      λ zero. absurd (let eleven = c.say_keys.ensures.status in omega (arith, zero, eleven)),
    )) goes)
    c.in-Keys.ensures.report

pub returns-in-Device-clause-boots : goal.returns-in-Device-clause-boots
returns-in-Device-clause-boots g c =
    let old = state_of g.I.Source g.O.Sink (c.args.bios.now.disks.now, c.args.bios.now.keys.now, c.args.ram.now, c.args.out.now) in
    let new = state_of g.I.Source g.O.Sink (c.boot.new.bios.disks.now, c.boot.new.bios.keys.now, c.boot.new.ram, c.say_failed.new.out) in
    told_map (g.D.Disks.past c.args.bios.now.disks.now) _ _
    (λ now goes. keys_map g.I.Source _ _ _
    (λ all left went. (
      (boot_failed g.D.Disks false _ left old new (sink_of g.O.Sink c.boot.new.out) c.in-Device.phase c.say_failed.result c.boot.new.ram went.1
          c.say_failed.ensures.status c.say_failed.ensures.shown went.0).does,
      λ zero. absurd (not_zero _ zero c.say_failed.ensures.lost),
    )) goes)
    c.in-Device.ensures.report
