-- Disk by disk.
use Rattle.std.proofs.Common.{◌≡◌, Err, refl, rules}
use Rattle.lilo_model.specs.PlanRefusal.{disk_check}
use Rattle.lilo_conf.specs.View.{disk_view}
use Rattle.map_plan.specs.Sound.{machine_for}
use Rattle.map_plan.proofs.PassLemmas.{passes-next, passes-all, passes-decided}
use Rattle.map_plan.proofs.held.check_disks.Goals as goal

pub loop-disk-init : goal.loop-disk-init
loop-disk-init g c = refl

pub loop-disk-preserved : goal.loop-disk-preserved
loop-disk-preserved g c =
    passes-next (disk_check (machine_for c.args.volume.now)) disk_view c.args.disks.now c.loop-disk.disk-index _ c.loop-disk-test.true c.loop-disk.invariant
    c.in_ok-check_disk.ensures

pub returns-in_err-check_disk : goal.returns-in_err-check_disk
returns-in_err-check_disk g c =
    let given : c.from_residual.result ≡ Err (c.in_err-check_disk.field-0.0) = search rules in
    rw given
    (passes-decided (disk_check (machine_for c.args.volume.now)) disk_view c.args.disks.now c.loop-disk.disk-index _ (c.in_err-check_disk.field-0.0) c.loop-disk-test.true
    c.loop-disk.invariant c.in_err-check_disk.ensures)

pub returns : goal.returns
returns g c =
    passes-all (disk_check (machine_for c.args.volume.now)) disk_view c.args.disks.now c.loop-disk.disk-index c.loop-disk-test.false c.loop-disk.invariant
