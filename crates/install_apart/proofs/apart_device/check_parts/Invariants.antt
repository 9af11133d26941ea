use Rattle.std.proofs.Common.{◌≡◌, ◌≤◌, drop}
use Rattle.disk_trait.specs.Past.{Told}
use Rattle.lilo_model.specs.PlanRefusal.{each_passes}
use Rattle.lilo_conf.specs.View.{sections_view}
use Rattle.minix_zones.specs.Volume.{volume_view, past_of, faults_of, SameVolume}
use Rattle.install_apart.specs.Apart.{machine_by, device_check}
use Rattle.install_apart.proofs.apart_device.check_parts.Given as goal

-- what is left decides
abbrev pub invariant-loop-section : goal.invariant-loop-section
invariant-loop-section g l = record {
  rest : Told (past_of l.fn.volume) (λ now. each_passes (device_check now (machine_by l.fn.volume) (volume_view l.fn.volume) l.part) (sections_view l.sections)
      ≡ each_passes (device_check now (machine_by l.fn.volume) (volume_view l.fn.volume) l.part) (sections_view (drop l.section-index l.sections)));
  later : faults_of l.fn.volume ≤ faults_of l.volume;
  same : SameVolume l.fn.volume l.volume;
}
