-- The device that is to boot, then those of the sections.
use Rattle.std.proofs.Common.{◌≡◌, Ok, Err, rules, refl, ap}
use Rattle.lilo_model.specs.PlanRefusal.{each_passes}
use Rattle.lilo_conf.specs.View.{config_view, sections_view}
use Rattle.mbr_table.specs.View.{device_view}
use Rattle.minix_zones.specs.Volume.{volume_view, past_of, SameVolume}
use Rattle.install_apart.specs.Apart.{GivesApart, machine_by, device_check}
use Rattle.install_apart.specs.declared.apart_device.DevicePart.TheVariants.{Other, Table}
use Rattle.install_apart.proofs.ApartLemmas.{told_machine, devices-first, devices-second, devices-last}
use Rattle.install_apart.proofs.apart_device.check_devices.Goals as goal

pub returns-in_err-check_device-clause-apart : goal.returns-in_err-check_device-clause-apart
returns-in_err-check_device-clause-apart g c =
    let given : c.from_residual.result ≡ Err (c.in_err-check_device.field-0.0) = search rules in
    rw given
    (devices-first (machine_by c.args.volume.now) (volume_view c.args.volume.now) (config_view c.args.config.now) (device_view c.args.boot)
    (sections_view c.args.config.now.sections) refl (past_of c.args.volume.now) (c.in_err-check_device.field-0.0) c.in_err-check_device.ensures.apart)

pub returns-in_err-check_parts-clause-apart : goal.returns-in_err-check_parts-clause-apart
returns-in_err-check_parts-clause-apart g c =
    let given : c.from_residual-in_err-check_parts.result ≡ Err (c.in_err-check_parts.field-0.0) = search rules in
    let here = told_machine c.args.volume.now c.check_device.new.volume
    (λ volume now machine. GivesApart (Err (c.in_err-check_parts.field-0.0)) (each_passes (device_check now machine volume Other) (sections_view c.items.result.now)))
    c.in_ok-check_device.ensures.same c.in_err-check_parts.ensures.apart in
    rw given
    (devices-second (machine_by c.args.volume.now) (volume_view c.args.volume.now) (config_view c.args.config.now) (device_view c.args.boot)
    (sections_view c.items.result.now) (ap sections_view c.items.ensures) (past_of c.args.volume.now) (c.in_err-check_parts.field-0.0)
    c.in_ok-check_device.ensures.apart here)

pub returns-clause-apart : goal.returns-clause-apart
returns-clause-apart g c =
    let same : SameVolume c.args.volume.now c.check_parts.new.volume = search rules in
    let second = told_machine c.args.volume.now c.check_device.new.volume
    (λ volume now machine. each_passes (device_check now machine volume Other) (sections_view c.args.config.now.sections) ≡ Ok tt)
    c.in_ok-check_device.ensures.same (rw (c.items.ensures) at c.in_ok-check_parts.ensures.apart) in
    let last = told_machine c.args.volume.now c.check_parts.new.volume
    (λ volume now machine. GivesApart c.check_parts-2.result (each_passes (device_check now machine volume Table) (sections_view c.args.config.now.sections)))
    same (rw (c.items-2.ensures) at c.check_parts-2.ensures.apart) in
    devices-last (machine_by c.args.volume.now) (volume_view c.args.volume.now) (config_view c.args.config.now) (device_view c.args.boot)
    (sections_view c.args.config.now.sections) refl (past_of c.args.volume.now) c.check_parts-2.result c.in_ok-check_device.ensures.apart second last
