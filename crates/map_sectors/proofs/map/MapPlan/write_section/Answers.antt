-- The options sector comes first.
use Rattle.std.proofs.Common.{◌-◌, length, map, sym, ap, subst, ◌∙◌, arith}
use Rattle.std.specs.Prelude.{slice_index_or}
use Rattle.lilo_model.specs.Options.{options_bytes}
use Rattle.lilo_conf.specs.View.{config_view}
use Rattle.slot_lists.specs.Made.{place_view}
use Rattle.map_plan.specs.Sections.{planned_view}
use Rattle.map_sectors.specs.Places.{HasPlaces}
use Rattle.map_sectors.specs.Sectors.{sectors_after_options}
use Rattle.map_sectors.proofs.OwnLemmas.{after-some}
use Rattle.map_sectors.proofs.SectionLemmas.{in-options, after-options}
use Rattle.map_sectors.proofs.map.MapPlan.write_section.Goals as goal

pub returns-then-index-eq0 : goal.returns-then-index-eq0
returns-then-index-eq0 c machine has accepted =
    let middle = ap length c.bytes.ensures in
    let short = accepted.short in
    c.write_options.ensures (omega (arith, middle, short))
    ∙ ap options_bytes (c.bytes.ensures ∙ accepted.middle)
    ∙ sym (in-options (config_view c.args.self.now.config) machine (place_view c.args.zero) (planned_view c.args.planned.now) (map place_view c.args.places.now) c.args.index c.args.into.now c.if-index-eq0.true)

pub returns-else-index-eq0 : goal.returns-else-index-eq0
returns-else-index-eq0 c machine has accepted =
    let plan = c.args.self.now in
    let config = config_view plan.config in
    let zero_place = place_view c.args.zero in
    let mapped = planned_view c.args.planned.now in
    let places = map place_view c.args.places.now in
    c.write_after_options.ensures machine (subst (HasPlaces machine plan zero_place) (sym c.after.ensures) (after-some machine plan zero_place places 1 has)) accepted
    ∙ ap (λ places. slice_index_or (sectors_after_options config machine zero_place mapped places) (c.args.index - 1) c.args.into.now) c.after.ensures
    ∙ sym (after-options config machine zero_place mapped places c.args.index c.args.into.now (omega (arith, c.if-index-eq0.false)))
