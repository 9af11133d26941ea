-- Another system has one section sector.
use Rattle.std.proofs.Common.{map, sym, ap, ◌∙◌, arith}
use Rattle.std.specs.Prelude.{slice_index_or}
use Rattle.std.specs.Option.{option_map}
use Rattle.lilo_model.specs.Plan.{file_sectors}
use Rattle.lilo_conf.specs.View.{config_view}
use Rattle.slot_lists.specs.Made.{place_view}
use Rattle.map_plan.specs.Sections.{main_view}
use Rattle.map_sectors.proofs.SystemLemmas.{system-sector, past-system}
use Rattle.map_sectors.proofs.map.MapPlan.write_main.Goals as goal

pub returns-then-index-eq0 : goal.returns-then-index-eq0
returns-then-index-eq0 c machine has named =
    let config = config_view c.args.self.now.config in
    let zero_place = place_view c.args.zero in
    let sectors = c.in-System.sectors in
    let places = map place_view c.args.places.now in
    c.write_system.ensures machine zero_place has.geometries
    ∙ sym (system-sector config machine zero_place (place_view sectors.first) (option_map place_view sectors.table) places c.args.into.now)
    ∙ ap (λ files. slice_index_or (file_sectors config machine zero_place (main_view files) places) 0 c.args.into.now) (sym c.in-System.is)
    ∙ ap (λ index. slice_index_or (file_sectors config machine zero_place (main_view c.args.files.now) places) index c.args.into.now) (sym c.if-index-eq0.true)

pub returns-else-index-eq0 : goal.returns-else-index-eq0
returns-else-index-eq0 c machine has named =
    let config = config_view c.args.self.now.config in
    let zero_place = place_view c.args.zero in
    let sectors = c.in-System.sectors in
    let places = map place_view c.args.places.now in
    sym (past-system config machine zero_place (place_view sectors.first) (option_map place_view sectors.table) places c.args.index c.args.into.now (omega (arith, c.if-index-eq0.false)))
    ∙ ap (λ files. slice_index_or (file_sectors config machine zero_place (main_view files) places) c.args.index c.args.into.now) (sym c.in-System.is)
