-- Two slots that could be one are one, where slots are to be joined.
use Rattle.std.proofs.Common.{None, Some, sym, ap, ◌∙◌}
use Rattle.lilo_model.specs.Section.{section_bytes}
use Rattle.sector_address.specs.View.{geometry_view, slot_view}
use Rattle.run_sections.specs.Counted.{joined_slot}
use Rattle.map_sectors.proofs.SystemLemmas.{two_slots, two-slots}
use Rattle.map_sectors.proofs.map.MapPlan.write_two.Goals as goal

pub returns-in-Some : goal.returns-in-Some
returns-in-Some c machine has =
    let first = slot_view c.args.first in
    let next = slot_view c.args.next in
    let naming = c.naming_on.result in
    let geometry = has first.disk naming.geometry c.requires.first.disk ∙ ap geometry_view (sym (c.naming_on.ensures.geometry naming.geometry)) in
    c.write_section.ensures.bytes
    ∙ ap (λ joined. section_bytes (two_slots first next joined) None) c.in-Some.ensures.joined
    ∙ ap (λ compact. section_bytes (two_slots first next (joined_slot (geometry_view naming.geometry) compact (Some first) next)) None) c.naming_on.ensures.compact
    ∙ ap (λ slots. section_bytes slots None) (two-slots machine (geometry_view naming.geometry) c.args.self.now.config.compact first next geometry)

pub returns-in-None : goal.returns-in-None
returns-in-None c machine has =
    let first = slot_view c.args.first in
    let next = slot_view c.args.next in
    let naming = c.naming_on.result in
    let geometry = has first.disk naming.geometry c.requires.first.disk ∙ ap geometry_view (sym (c.naming_on.ensures.geometry naming.geometry)) in
    c.write_section-in-None.ensures.bytes
    ∙ ap (λ joined. section_bytes (two_slots first next joined) None) c.in-None.ensures.joined
    ∙ ap (λ compact. section_bytes (two_slots first next (joined_slot (geometry_view naming.geometry) compact (Some first) next)) None) c.naming_on.ensures.compact
    ∙ ap (λ slots. section_bytes slots None) (two-slots machine (geometry_view naming.geometry) c.args.self.now.config.compact first next geometry)
