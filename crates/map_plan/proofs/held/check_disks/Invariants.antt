use Rattle.std.proofs.Common.{◌≡◌, Ok, take}
use Rattle.lilo_model.specs.PlanRefusal.{each_passes, disk_check}
use Rattle.lilo_conf.specs.View.{disks_view}
use Rattle.map_plan.specs.Sound.{machine_for}
use Rattle.map_plan.proofs.held.check_disks.Given as goal

-- what is said of the disks so far is so
abbrev pub invariant-loop-disk : goal.invariant-loop-disk
invariant-loop-disk g l = each_passes (disk_check (machine_for l.volume)) (disks_view (take l.disk-index l.disks)) ≡ Ok tt
