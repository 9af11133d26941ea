-- The slots of the section sector are those that are left after the ones before it.
use Rattle.std.proofs.Common.{◌∙◌, ◌*◌, map, drop, ap, Ok}
use Rattle.lilo_model.specs.Section.{section_bytes}
use Rattle.lilo_model.specs.Plan.{filled_places}
use Rattle.sector_address.specs.View.{mode_view, geometry_view, slot_view}
use Rattle.map_section.specs.View.{lent_view}
use Rattle.slot_lists.specs.Made.{place_view}
use Rattle.slot_lists.specs.Runs.{places_in}
use Rattle.run_sections.proofs.LeftLemmas.{begun}
use Rattle.run_sections.proofs.section.write_section_at.Goals as goal

pub returns : goal.returns
returns c slots made =
    let zero = place_view c.args.zero in
    let naming = c.args.naming in
    let left = begun c.new-cursor.result c.args.runs.now zero (mode_view naming.mode) (geometry_view naming.geometry) naming.compact
    (filled_places zero (places_in c.args.runs.now)) slots
    (ap mode_view c.new-cursor.ensures.mode) (ap geometry_view c.new-cursor.ensures.geometry) c.new-cursor.ensures.compact
    (c.new-cursor.ensures.left c.args.runs.now zero) made in
    let those = c.next_slots-slots.ensures.slots (drop (63 * c.args.index) slots)
    (c.pass.ensures slots left ∙ ap (λ n. Ok (drop (63 * n) slots)) c.from-before.ensures) in
    c.write_section.ensures.bytes
    ∙ ap (λ slots. section_bytes slots (lent_view c.args.link)) (ap (map slot_view) c.as_slice.ensures.value ∙ those)
