-- How the boot ended decides.
use Rattle.std.proofs.Common.{refl}
use Rattle.stream_trait.specs.Shows.{sink_of}
use Rattle.disk_trait.proofs.ToldLemmas.{told_map}
use Rattle.lilo_run.specs.Run.{state_of}
use Rattle.lilo_run.proofs.EffectLemmas.{boot_loaded, boot_handed, boot_refused, boot_failed, boot_unheard}
use Rattle.loader_core.proofs.BootLemmas.{keys_map}
use Rattle.lilo_run.proofs.boot.boot_span.Goals as goal

pub returns-in-Loaded-clause-does : goal.returns-in-Loaded-clause-does
returns-in-Loaded-clause-does g c =
    let old = state_of g.I.Source g.O.Sink (c.args.bios.now.disks.now, c.args.bios.now.keys.now, c.args.ram.now, c.args.out.now) in
    let new = state_of g.I.Source g.O.Sink (c.boot.new.bios.disks.now, c.boot.new.bios.keys.now, c.boot.new.ram, c.tell_kernel.new.out) in
    rw c.tell_kernel.ensures.same (told_map (g.D.Disks.past c.args.bios.now.disks.now) _ _
    (λ now goes. keys_map g.I.Source _ _ _
    (λ all left went. boot_loaded g.D.Disks c.args.dump _ left old new (sink_of g.O.Sink c.boot.new.out) c.in-Loaded.layout c.boot.new.ram refl went.1 c.tell_kernel.ensures.shown went.0) goes)
    c.in-Loaded.ensures.report)

pub returns-in-Handed-clause-does : goal.returns-in-Handed-clause-does
returns-in-Handed-clause-does g c =
    let old = state_of g.I.Source g.O.Sink (c.args.bios.now.disks.now, c.args.bios.now.keys.now, c.args.ram.now, c.args.out.now) in
    let new = state_of g.I.Source g.O.Sink (c.boot.new.bios.disks.now, c.boot.new.bios.keys.now, c.boot.new.ram, c.tell_sector.new.out) in
    rw c.tell_sector.ensures.same (told_map (g.D.Disks.past c.args.bios.now.disks.now) _ _
    (λ now goes. keys_map g.I.Source _ _ _
    (λ all left went. boot_handed g.D.Disks c.args.dump _ left old new (sink_of g.O.Sink c.boot.new.out) c.boot.new.ram refl went.1 c.tell_sector.ensures.shown went.0) goes)
    c.in-Handed.ensures.report)

pub returns-in-Refused-clause-does : goal.returns-in-Refused-clause-does
returns-in-Refused-clause-does g c =
    let old = state_of g.I.Source g.O.Sink (c.args.bios.now.disks.now, c.args.bios.now.keys.now, c.args.ram.now, c.args.out.now) in
    let new = state_of g.I.Source g.O.Sink (c.boot.new.bios.disks.now, c.boot.new.bios.keys.now, c.boot.new.ram, c.say.new.out) in
    told_map (g.D.Disks.past c.args.bios.now.disks.now) _ _
    (λ now goes. keys_map g.I.Source _ _ _
    (λ all left went. boot_refused g.D.Disks c.args.dump _ left old new (sink_of g.O.Sink c.boot.new.out) c.in-Refused.reason c.say.result c.boot.new.ram went.1
    c.say.ensures.status c.say.ensures.some c.say.ensures.shown went.0) goes)
    c.in-Refused.ensures.report

pub returns-in-Keys-clause-does : goal.returns-in-Keys-clause-does
returns-in-Keys-clause-does g c =
    let old = state_of g.I.Source g.O.Sink (c.args.bios.now.disks.now, c.args.bios.now.keys.now, c.args.ram.now, c.args.out.now) in
    let new = state_of g.I.Source g.O.Sink (c.boot.new.bios.disks.now, c.boot.new.bios.keys.now, c.boot.new.ram, c.say_keys.new.out) in
    told_map (g.D.Disks.past c.args.bios.now.disks.now) _ _
    (λ now goes. keys_map g.I.Source _ _ _
    (λ all left went. boot_unheard g.D.Disks c.args.dump _ left old new (sink_of g.O.Sink c.boot.new.out) c.say_keys.result c.boot.new.ram went.1
    c.say_keys.ensures.status c.say_keys.ensures.shown (c.boot.ensures.asks.keys c.in-Keys.is) went.0) goes)
    c.in-Keys.ensures.report

pub returns-in-Device-clause-does : goal.returns-in-Device-clause-does
returns-in-Device-clause-does g c =
    let old = state_of g.I.Source g.O.Sink (c.args.bios.now.disks.now, c.args.bios.now.keys.now, c.args.ram.now, c.args.out.now) in
    let new = state_of g.I.Source g.O.Sink (c.boot.new.bios.disks.now, c.boot.new.bios.keys.now, c.boot.new.ram, c.say_failed.new.out) in
    told_map (g.D.Disks.past c.args.bios.now.disks.now) _ _
    (λ now goes. keys_map g.I.Source _ _ _
    (λ all left went. boot_failed g.D.Disks c.args.dump _ left old new (sink_of g.O.Sink c.boot.new.out) c.in-Device.phase c.say_failed.result c.boot.new.ram went.1
    c.say_failed.ensures.status c.say_failed.ensures.shown went.0) goes)
    c.in-Device.ensures.report
