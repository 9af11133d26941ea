-- Those of the first section come first.
use Rattle.std.proofs.Common.{◌≤◌, ◌<◌, ◌-◌, List, map, length, drop, sym, ap, subst, ◌∙◌, rules}
use Rattle.std.specs.Prelude.{slice_index_or}
use Rattle.std.specs.List.{AllByRecursion}
use Rattle.lilo_model.specs.Plan.{sections_sectors, section_size}
use Rattle.lilo_conf.specs.View.{config_view}
use Rattle.slot_lists.specs.Made.{place_view}
use Rattle.map_plan.specs.declared.section.PlannedSection.{PlannedSection}
use Rattle.map_plan.specs.Sections.{planned_view, planned_views}
use Rattle.map_sectors.specs.Accepted.{IsAccepted}
use Rattle.map_sectors.specs.Places.{HasPlaces}
use Rattle.map_sectors.proofs.OwnLemmas.{after-some}
use Rattle.map_sectors.proofs.SectionLemmas.{in-section, after-section}
use Rattle.map_sectors.proofs.TableLemmas.{section-first, others-of}
use Rattle.map_sectors.proofs.map.MapPlan.+write_sections.Goals as goal

pub returns-then-index-size : goal.returns-then-index-size
returns-then-index-size t c machine has accepted =
    let plan = c.args.self.now in
    let config = config_view plan.config in
    let zero_place = place_view c.args.zero in
    let sections = c.args.sections.now in
    let planned = c.index-sections-0.result in
    let places = map place_view c.args.places.now in
    let some : 0 < length sections = search rules in
    let first = section-first sections planned some c.index-sections-0.is in
    let all = subst (AllByRecursion (IsAccepted machine plan)) first accepted in
    let size = c.section_size-size.ensures.size machine has.geometries all.0 in
    c.write_section.ensures machine has all.0
    ∙ sym (in-section config machine zero_place (planned_view planned) (planned_views (others-of sections)) places c.args.index c.args.into.now
    (subst (λ n. c.args.index < n) size c.if-index-size.true))
    ∙ ap (λ (sections : List PlannedSection). slice_index_or (sections_sectors config machine zero_place (planned_views sections) places) c.args.index c.args.into.now) (sym first)

pub returns-else-index-size : goal.returns-else-index-size
returns-else-index-size t c machine has accepted =
    let plan = c.args.self.now in
    let config = config_view plan.config in
    let zero_place = place_view c.args.zero in
    let sections = c.args.sections.now in
    let planned = c.index-sections-0.result in
    let mapped = planned_view planned in
    let others = planned_views (others-of sections) in
    let places = map place_view c.args.places.now in
    let some : 0 < length sections = search rules in
    let first = section-first sections planned some c.index-sections-0.is in
    let all = subst (AllByRecursion (IsAccepted machine plan)) first accepted in
    let size = c.section_size-size.ensures.size machine has.geometries all.0 in
    let behind = c.after-places.ensures ∙ ap (λ n. drop n places) size in
    c.write_sections.ensures machine (subst (HasPlaces machine plan zero_place) (sym behind) (after-some machine plan zero_place places (section_size config machine mapped) has)) all.1
    ∙ ap (λ places. slice_index_or (sections_sectors config machine zero_place others places) (c.args.index - c.section_size-size.result) c.args.into.now) behind
    ∙ ap (λ n. slice_index_or (sections_sectors config machine zero_place others (drop (section_size config machine mapped) places)) (c.args.index - n) c.args.into.now) size
    ∙ sym (after-section config machine zero_place mapped others places c.args.index c.args.into.now (subst (λ n. n ≤ c.args.index) size c.if-index-size.false))
    ∙ ap (λ (sections : List PlannedSection). slice_index_or (sections_sectors config machine zero_place (planned_views sections) places) c.args.index c.args.into.now) (sym first)
