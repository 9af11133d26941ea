-- Those of the message come first; the zero sector lies at the fifth place.
use Rattle.std.proofs.Common.{◌≤◌, ◌<◌, ◌-◌, map, drop, sym, ap, subst, ◌∙◌}
use Rattle.std.specs.Prelude.{slice_index_or}
use Rattle.std.specs.List.{AllByRecursion}
use Rattle.lilo_model.specs.Plan.{optional_chain, optional_sectors, sections_sectors, zero_sector_place}
use Rattle.slot_lists.specs.Made.{place_view}
use Rattle.map_plan.specs.Sections.{planned_views}
use Rattle.map_sectors.specs.Accepted.{IsAccepted}
use Rattle.map_sectors.specs.Map.{plan_view}
use Rattle.map_sectors.specs.Places.{HasPlaces}
use Rattle.map_sectors.proofs.FourLemmas.{four-own}
use Rattle.map_sectors.proofs.OwnLemmas.{four-at, all-places, after-some}
use Rattle.map_sectors.proofs.SectionLemmas.{in-message, after-message}
use Rattle.map_sectors.proofs.map.MapPlan.write_mapped.Goals as goal

pub write_optional-requires-clause-zero : goal.write_optional-requires-clause-zero
write_optional-requires-clause-zero c =
    let plan = c.args.self.now in
    subst (λ place. place.disk ≤ 3) (sym c.place_at-zero.ensures)
    (four-at (map place_view c.args.places.now) 4 (four-own plan.disk c.args.places.now plan.disk_is c.requires))

pub write_sections-requires-clause-zero : goal.write_sections-requires-clause-zero
write_sections-requires-clause-zero c =
    let plan = c.args.self.now in
    subst (λ place. place.disk ≤ 3) (sym c.place_at-zero.ensures)
    (four-at (map place_view c.args.places.now) 4 (four-own plan.disk c.args.places.now plan.disk_is c.requires))

pub returns-then-index-chain : goal.returns-then-index-chain
returns-then-index-chain c machine fits own =
    let plan = c.args.self.now in
    let view = plan_view plan in
    let places = map place_view c.args.places.now in
    let all = all-places machine plan c.args.places.now fits.geometries c.requires own in
    let chain = c.from-chain.ensures ∙ c.optional_chain.ensures machine fits.geometries fits.message in
    let has = subst (λ zero_place. HasPlaces machine plan zero_place (map place_view c.after-others.result.now)) (sym c.place_at-zero.ensures)
    (subst (HasPlaces machine plan (zero_sector_place places)) (sym c.after-others.ensures) (after-some machine plan (zero_sector_place places) places 5 all)) in
    c.write_optional.ensures machine has fits.message
    ∙ ap (λ zero_place. slice_index_or (optional_sectors view.config machine zero_place view.message (map place_view c.after-others.result.now)) c.args.index c.args.into.now) c.place_at-zero.ensures
    ∙ ap (λ places'. slice_index_or (optional_sectors view.config machine (zero_sector_place places) view.message places') c.args.index c.args.into.now) c.after-others.ensures
    ∙ sym (in-message view machine places c.args.index c.args.into.now (subst (λ n. c.args.index < n) chain c.if-index-chain.true))

pub returns-else-index-chain : goal.returns-else-index-chain
returns-else-index-chain c machine fits own =
    let plan = c.args.self.now in
    let view = plan_view plan in
    let places = map place_view c.args.places.now in
    let all = all-places machine plan c.args.places.now fits.geometries c.requires own in
    let chain = c.from-chain.ensures ∙ c.optional_chain.ensures machine fits.geometries fits.message in
    let behind = c.after-others-else-index-chain.ensures ∙ ap (drop c.from-chain.result) c.after-others.ensures ∙ ap (λ n. drop n (drop 5 places)) chain in
    let own_places = map place_view c.after-others-else-index-chain.result.now in
    let has = subst (λ zero_place. HasPlaces machine plan zero_place own_places) (sym c.place_at-zero.ensures)
    (subst (HasPlaces machine plan (zero_sector_place places)) (sym behind)
    (after-some machine plan (zero_sector_place places) (drop 5 places) (optional_chain view.config machine view.message) (after-some machine plan (zero_sector_place places) places 5 all))) in
    let index = c.args.index - c.from-chain.result in
    c.write_sections.ensures machine has (subst (AllByRecursion (IsAccepted machine plan)) (sym c.as_slice-sections.ensures.value) fits.sections)
    ∙ ap (λ sections. slice_index_or (sections_sectors view.config machine (place_view c.place_at-zero.result) (planned_views sections) own_places) index c.args.into.now) c.as_slice-sections.ensures.value
    ∙ ap (λ zero_place. slice_index_or (sections_sectors view.config machine zero_place view.sections own_places) index c.args.into.now) c.place_at-zero.ensures
    ∙ ap (λ places'. slice_index_or (sections_sectors view.config machine (zero_sector_place places) view.sections places') index c.args.into.now) behind
    ∙ ap (λ n. slice_index_or (sections_sectors view.config machine (zero_sector_place places) view.sections (drop (optional_chain view.config machine view.message) (drop 5 places))) (c.args.index - n) c.args.into.now) chain
    ∙ sym (after-message view machine places c.args.index c.args.into.now (subst (λ n. n ≤ c.args.index) chain c.if-index-chain.false))
