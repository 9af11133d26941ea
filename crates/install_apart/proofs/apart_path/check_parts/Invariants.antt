use Rattle.std.proofs.Common.{◌≡◌, ◌≤◌, drop}
use Rattle.lilo_model.specs.PlanRefusal.{each_passes}
use Rattle.lilo_conf.specs.View.{sections_view}
use Rattle.minix_zones.specs.Volume.{faults_of, SameVolume}
use Rattle.install_apart.specs.Guarded.{OnGuarded, part_check}
use Rattle.install_apart.proofs.apart_path.check_parts.Given as goal

-- what is left decides
abbrev pub invariant-loop-section : goal.invariant-loop-section
invariant-loop-section g l = record {
  rest : OnGuarded l.fn.volume l.guarded (λ now volume names. each_passes (part_check now volume names l.part) (sections_view l.sections)
      ≡ each_passes (part_check now volume names l.part) (sections_view (drop l.section-index l.sections)));
  later : faults_of l.fn.volume ≤ faults_of l.volume;
  same : SameVolume l.fn.volume l.volume;
}
