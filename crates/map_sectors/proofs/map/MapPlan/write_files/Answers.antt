-- Those of the main file come first.
use Rattle.std.proofs.Common.{◌≤◌, ◌<◌, ◌-◌, map, drop, sym, ap, subst, ◌∙◌}
use Rattle.std.specs.Prelude.{slice_index_or}
use Rattle.lilo_model.specs.Plan.{chain_for, optional_sectors}
use Rattle.lilo_conf.specs.View.{config_view}
use Rattle.slot_lists.specs.Made.{place_view}
use Rattle.map_plan.specs.Sections.{main_view, initrd_view}
use Rattle.map_sectors.specs.Places.{HasPlaces}
use Rattle.map_sectors.proofs.OwnLemmas.{after-some}
use Rattle.map_sectors.proofs.SectionLemmas.{in-main, after-main}
use Rattle.map_sectors.proofs.map.MapPlan.write_files.Goals as goal

pub returns-then-index-chain : goal.returns-then-index-chain
returns-then-index-chain c machine has named =
    let files = c.args.files.now in
    let chain = c.from-chain.ensures ∙ c.main_chain.ensures machine has.geometries named in
    c.write_main.ensures machine has named
    ∙ sym (in-main (config_view c.args.self.now.config) machine (place_view c.args.zero) (main_view files) (initrd_view files) (map place_view c.args.places.now) c.args.index c.args.into.now
    (subst (λ n. c.args.index < n) chain c.if-index-chain.true))

pub returns-else-index-chain : goal.returns-else-index-chain
returns-else-index-chain c machine has named =
    let plan = c.args.self.now in
    let config = config_view plan.config in
    let zero_place = place_view c.args.zero in
    let files = c.args.files.now in
    let places = map place_view c.args.places.now in
    let chain = c.from-chain.ensures ∙ c.main_chain.ensures machine has.geometries named in
    let behind = c.after-places.ensures ∙ ap (λ n. drop n places) chain in
    c.write_initrd.ensures machine (subst (HasPlaces machine plan zero_place) (sym behind) (after-some machine plan zero_place places (chain_for config machine (main_view files)) has)) named
    ∙ ap (λ places. slice_index_or (optional_sectors config machine zero_place (initrd_view files) places) (c.args.index - c.from-chain.result) c.args.into.now) behind
    ∙ ap (λ n. slice_index_or (optional_sectors config machine zero_place (initrd_view files) (drop (chain_for config machine (main_view files)) places)) (c.args.index - n) c.args.into.now) chain
    ∙ sym (after-main config machine zero_place (main_view files) (initrd_view files) places c.args.index c.args.into.now (subst (λ n. n ≤ c.args.index) chain c.if-index-chain.false))
