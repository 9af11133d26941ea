-- The boot sector is read, and what follows goes by it.
use Rattle.std.proofs.Common.{◌≡◌}
use Rattle.lilo_model.proofs.RoseLemmas.{rose_after}
use Rattle.lilo_model.specs.LineSector.{line_bytes}
use Rattle.lilo_model.specs.LineShots.{shot_line, shot_place}
use Rattle.disk_trait.specs.Calls.{SameOf}
use Rattle.disk_trait.specs.declared.disks.Phase.TheVariants.{Before}
use Rattle.disk_trait.proofs.ToldLemmas.{told_all, told_map}
use Rattle.disk_trait.proofs.CallLemmas.{goes_on_join}
use Rattle.sector_address.specs.Machine.{machine_of}
use Rattle.mbr_table.specs.View.{span_view}
use Rattle.bios_model.proofs.WriteLemmas.{goes_on_read}
use Rattle.one_shot.specs.declared.shot.ShotFault.TheVariants.{Device}
use Rattle.one_shot.proofs.ShotLemmas.{shot_is, puts_none, puts_after}
use Rattle.one_shot.proofs.shot.shoot.Goals as goal

pub returns-in-Err-clause-line : goal.returns-in-Err-clause-line
returns-in-Err-clause-line g c =
    let disks = g.D.Disks in
    let old = c.args.disks.now in
    let same : SameOf disks old c.read.new.self = record { same_past = c.read.ensures.past; same_size = c.read.ensures.size; same_count = c.read.ensures.count; same_geometry = c.read.ensures.geometry } in
    told_all (disks.past old) _
    (λ now. puts_none disks old c.read.new.self same c.read.ensures.cause.later (line_bytes (shot_line c.args.text.now))
    (shot_place now (machine_of disks old) (span_view c.args.device) c.args.text.now) (Device Before) tt (λ is. let h : ⊥ = cc in absurd h))

pub returns-in-Ok-clause-line : goal.returns-in-Ok-clause-line
returns-in-Ok-clause-line g c =
    let disks = g.D.Disks in
    let old = c.args.disks.now in
    let text = c.args.text.now in
    let same : SameOf disks old c.read.new.self = record { same_past = c.read.ensures.past; same_size = c.read.ensures.size; same_count = c.read.ensures.count; same_geometry = c.read.ensures.geometry } in
    let call = rw (c.read.ensures.size, c.read.ensures.geometry) at c.shoot_by.ensures.puts in
    told_map (disks.past old) (λ now. c.read.new.into ≡ now c.args.device.disk c.args.device.start) _
    (λ now here.
    let is = shot_is now (machine_of disks old) (span_view c.args.device) text c.read.new.into here in
    rw is (puts_after disks old c.read.new.self same c.read.ensures.cause.later (line_bytes (shot_line text)) _ c.shoot_by.new.disks c.shoot_by.result call))
    c.in-Ok.ensures.bytes

pub returns-in-Ok-clause-failed : goal.returns-in-Ok-clause-failed
returns-in-Ok-clause-failed g c = λ phase is. rose_after _ _ _ c.read.ensures.cause.later (c.shoot_by.ensures.failed phase is)

pub returns-in-Ok-clause-goes_on : goal.returns-in-Ok-clause-goes_on
returns-in-Ok-clause-goes_on g c =
    let disks = g.D.Disks in
    let old = c.args.disks.now in
    let same : SameOf disks old c.read.new.self = record { same_past = c.read.ensures.past; same_size = c.read.ensures.size; same_count = c.read.ensures.count; same_geometry = c.read.ensures.geometry } in
    goes_on_join disks old c.read.new.self c.shoot_by.new.disks (goes_on_read disks old c.read.new.self same c.read.ensures.cause.later) c.shoot_by.ensures.goes_on

pub returns-in-Err-clause-goes_on : goal.returns-in-Err-clause-goes_on
returns-in-Err-clause-goes_on g c =
    let disks = g.D.Disks in
    let same : SameOf disks c.args.disks.now c.read.new.self = record { same_past = c.read.ensures.past; same_size = c.read.ensures.size; same_count = c.read.ensures.count; same_geometry = c.read.ensures.geometry } in
    goes_on_read disks c.args.disks.now c.read.new.self same c.read.ensures.cause.later
