use Rattle.std.proofs.Common.{◌≡◌, ◌≤◌, Ok, take, length}
use Rattle.std.specs.Prelude.{All}
use Rattle.lilo_conf.specs.View.{sections_view}
use Rattle.minix_zones.specs.Volume.{volume_view, sizes_of, faults_of, SameVolume}
use Rattle.map_plan.specs.Sections.{sections_planned, planned_views, FitsSection}
use Rattle.map_plan.specs.Skipped.{skipped_paths}
use Rattle.map_plan.specs.Sound.{OnSound}
use Rattle.map_plan.proofs.section.map_sections.Given as goal

-- what was found so far is what is planned of the sections so far
abbrev pub invariant-loop-section : goal.invariant-loop-section
invariant-loop-section g l = record {
  so : OnSound l.fn.volume (λ now machine. sections_planned now machine (volume_view l.fn.volume) (sections_view (take l.section-index l.sections))
      ≡ Ok (planned_views l.found.planned.items));
  fits : All (FitsSection (sizes_of l.fn.volume)) l.found.planned.items;
  few : length l.found.planned.items ≤ l.section-index;
  skipped : OnSound l.fn.volume (λ now machine. l.found.skipped.items ≡ skipped_paths now machine (volume_view l.fn.volume) (sections_view (take l.section-index l.sections)));
  later : faults_of l.fn.volume ≤ faults_of l.volume;
  same : SameVolume l.fn.volume l.volume;
}
