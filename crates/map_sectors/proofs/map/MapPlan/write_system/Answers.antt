-- Its slots are those of its sector, and of the table's.
use Rattle.std.proofs.Common.{◌≤◌, [], ◌∷◌, None, sym, ap, subst, ◌∙◌}
use Rattle.std.specs.Prelude.{IfSome}
use Rattle.std.specs.Option.{option_map}
use Rattle.lilo_model.specs.Section.{section_bytes}
use Rattle.lilo_model.specs.Plan.{file_slots}
use Rattle.sector_address.specs.View.{slot_view}
use Rattle.lilo_conf.specs.View.{config_view}
use Rattle.slot_lists.specs.Made.{place_view}
use Rattle.map_plan.specs.Devices.{places_with, system_file}
use Rattle.map_sectors.proofs.SystemLemmas.{one-slot, both-slots}
use Rattle.map_sectors.proofs.map.MapPlan.write_system.Goals as goal

pub returns-in-Some : goal.returns-in-Some
returns-in-Some c machine zero has =
    let config = config_view c.args.self.now.config in
    let first = place_view c.args.sectors.now.first in
    c.write_two.ensures machine has
    ∙ ap (λ slots. section_bytes slots None)
    (both-slots config machine zero first (place_view c.in-Some.table) (slot_view c.slot-first.result) (slot_view c.slot.result)
    (c.slot-first.ensures.value machine has c.requires.0)
    (c.slot.ensures.value machine has (subst (λ table. IfSome table (λ place. place.disk ≤ 3)) c.in-Some.is c.requires.1)))
    ∙ ap (λ table. section_bytes (file_slots config machine zero (system_file (places_with first (option_map place_view table)))) None) (sym c.in-Some.is)

pub returns-in-None : goal.returns-in-None
returns-in-None c machine zero has =
    let config = config_view c.args.self.now.config in
    let first = place_view c.args.sectors.now.first in
    c.write_section.ensures.bytes
    ∙ ap (λ slot. section_bytes (slot ∷ []) None) (c.slot-first.ensures.value machine has c.requires.0)
    ∙ ap (λ slots. section_bytes slots None) (sym (one-slot config machine zero first))
    ∙ ap (λ table. section_bytes (file_slots config machine zero (system_file (places_with first (option_map place_view table)))) None) (sym c.in-None.is)
