-- The entries of all sections.
use Rattle.std.proofs.Common.{◌++◌, List, map, sym, ap, subst, ◌∙◌}
use Rattle.std.specs.List.{AllByRecursion}
use Rattle.lilo_model.specs.Plan.{plan_entries, sections_entries}
use Rattle.lilo_conf.specs.View.{config_view}
use Rattle.boot_map.specs.View.{descriptor_view}
use Rattle.slot_lists.specs.Made.{place_view}
use Rattle.map_plan.specs.declared.section.PlannedSection.{PlannedSection}
use Rattle.map_plan.specs.Sections.{planned_views}
use Rattle.map_sectors.specs.Accepted.{IsAccepted}
use Rattle.map_sectors.specs.Map.{plan_view}
use Rattle.map_sectors.specs.Places.{LieOnFour}
use Rattle.map_sectors.proofs.FourLemmas.{four-sections}
use Rattle.map_sectors.proofs.map.MapPlan.table.Goals as goal

pub returns-clause-entries : goal.returns-clause-entries
unfolding plan_entries
returns-clause-entries c machine fits on =
    let plan = c.args.self.now in
    let config = config_view plan.config in
    let sections = c.as_slice-sections.ensures.value in
    let after = c.sections_places.ensures machine fits in
    let four = subst LieOnFour (sym after) (four-sections (plan_view plan) machine (map place_view c.args.places.now) on) in
    c.add_sections.ensures.entries machine fits.geometries (subst (AllByRecursion (IsAccepted machine plan)) (sym sections) fits.sections) four
    ∙ ap (λ (entries : List _). map descriptor_view entries ++ sections_entries config machine (planned_views c.as_slice-sections.result.now) (map place_view c.sections_places.result.now)) c.new-entries.ensures
    ∙ ap (λ (sections : List PlannedSection). sections_entries config machine (planned_views sections) (map place_view c.sections_places.result.now)) sections
    ∙ ap (sections_entries config machine (planned_views plan.files.sections.items)) after
