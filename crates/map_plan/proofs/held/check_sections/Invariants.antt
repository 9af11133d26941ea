use Rattle.std.proofs.Common.{◌≡◌, ◌≤◌, Ok, take}
use Rattle.std.specs.Prelude.{All}
use Rattle.lilo_model.specs.PlanRefusal.{each_passes, mapped_check}
use Rattle.mbr_table.specs.View.{span_view}
use Rattle.minix_zones.specs.Volume.{volume_view, faults_of, SameVolume}
use Rattle.map_plan.specs.Sections.{planned_view, planned_views, IsPlannedIn}
use Rattle.map_plan.specs.Sound.{OnSound}
use Rattle.map_plan.proofs.held.check_sections.Given as goal

-- the sections so far are accepted
abbrev pub invariant-loop-planned : goal.invariant-loop-planned
invariant-loop-planned g l = record {
  so : OnSound l.fn.volume (λ now machine.
      All (λ planned. IsPlannedIn now machine (volume_view l.fn.volume) (planned_view planned)) l.sections
      → each_passes (mapped_check now (volume_view l.fn.volume) (span_view l.boot)) (planned_views (take l.planned-index l.sections)) ≡ Ok tt);
  later : faults_of l.fn.volume ≤ faults_of l.volume;
  same : SameVolume l.fn.volume l.volume;
}
