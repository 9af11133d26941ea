-- The boot device first, then the signature.
use Rattle.std.proofs.Common.{◌≡◌, sym, subst, ap, ◌∙◌}
use Rattle.std.specs.Option.{option_map}
use Rattle.lilo_model.specs.BootSector.{is_bootable}
use Rattle.lilo_model.specs.Checks.{require}
use Rattle.lilo_model.specs.PlanRefusal.{NoSignature, system_check}
use Rattle.mbr_table.specs.View.{span_view}
use Rattle.minix_zones.specs.Volume.{past_of, sizes_of, faults_of}
use Rattle.slot_lists.specs.Made.{place_view}
use Rattle.map_plan.specs.Devices.{sectors_view}
use Rattle.map_plan.specs.View.{Gives, Refuses}
use Rattle.map_plan.proofs.HeldLemmas.{system-boot, system-other, read-failed}
use Rattle.map_plan.proofs.SoundLemmas.{told_all, told_map}
use Rattle.map_plan.proofs.held.check_system.Goals as goal

pub returns-then-is_at-clause-system : goal.returns-then-is_at-clause-system
returns-then-is_at-clause-system g c =
    told_all (past_of c.args.volume.now)
    (λ now. Refuses c.other_is_boot.result (system_check now (span_view c.args.boot) c.args.path.now (sectors_view c.args.sectors)))
    (λ now. subst (Refuses c.other_is_boot.result)
    (sym (system-boot now (span_view c.args.boot) c.args.path.now (place_view c.args.sectors.first) (option_map place_view c.args.sectors.table)
    (sym c.is_at.ensures ∙ c.if-is_at.true)))
    c.other_is_boot.ensures.refused)

pub returns-in-Ok-clause-system : goal.returns-in-Ok-clause-system
returns-in-Ok-clause-system g c =
    told_map (past_of c.args.volume.now)
    (λ now. c.read.new.into ≡ now c.args.sectors.first.disk c.args.sectors.first.sector)
    (λ now. Gives (λ done. tt) c.check_signature.result (system_check now (span_view c.args.boot) c.args.path.now (sectors_view c.args.sectors)))
    (λ now is. subst (Gives (λ done. tt) c.check_signature.result)
    (ap (λ bytes. require (is_bootable bytes) (NoSignature c.args.path.now)) is
    ∙ sym (system-other now (span_view c.args.boot) c.args.path.now (place_view c.args.sectors.first) (option_map place_view c.args.sectors.table)
    (sym c.is_at.ensures ∙ c.if-is_at.false)))
    c.check_signature.ensures.signature)
    c.in-Ok.ensures.bytes

pub returns-in-Err-clause-cause : goal.returns-in-Err-clause-cause
returns-in-Err-clause-cause g c =
    read-failed (sizes_of c.args.volume.now c.args.sectors.first.disk) c.args.sectors.first.sector (faults_of c.args.volume.now) (faults_of c.read.new.self)
    c.in-Err.field-0 c.in-Err.ensures.cause c.requires

pub returns-then-is_at-clause-cause : goal.returns-then-is_at-clause-cause
returns-then-is_at-clause-cause g c = c.other_is_boot.ensures.cause (faults_of c.args.volume.now) (faults_of c.args.volume.now)

pub returns-in-Ok-clause-cause : goal.returns-in-Ok-clause-cause
returns-in-Ok-clause-cause g c = c.check_signature.ensures.cause (faults_of c.args.volume.now) (faults_of c.read.new.self)
