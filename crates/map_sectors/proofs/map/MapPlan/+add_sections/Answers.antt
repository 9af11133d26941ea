-- The entries of the first section, and those of the others.
use Rattle.std.proofs.Common.{◌++◌, List, map, length, sym, ap, subst, ◌∙◌, append_assoc, rules, ◌<◌}
use Rattle.std.specs.List.{AllByRecursion}
use Rattle.lilo_model.specs.ConfLawful.{names_of_section}
use Rattle.lilo_model.specs.Plan.{descriptor_for, sections_entries}
use Rattle.lilo_conf.specs.View.{config_view, section_view}
use Rattle.boot_map.specs.View.{descriptor_view}
use Rattle.slot_lists.specs.Made.{place_view}
use Rattle.map_plan.specs.declared.section.PlannedSection.{PlannedSection}
use Rattle.map_plan.specs.Sections.{planned_view, planned_views}
use Rattle.map_sectors.specs.Accepted.{IsAccepted}
use Rattle.map_sectors.specs.Places.{LieOnFour}
use Rattle.map_sectors.proofs.FourLemmas.{four-after}
use Rattle.map_sectors.proofs.TableLemmas.{section-first, others-of}
use Rattle.map_sectors.proofs.map.MapPlan.+add_sections.Goals as goal

pub returns-clause-entries : goal.returns-clause-entries
returns-clause-entries t c machine has accepted on =
    let config = config_view c.args.self.now.config in
    let sections = c.args.sections.now in
    let planned = c.index-sections-0.result in
    let own = map place_view c.args.places.now in
    let old = map descriptor_view c.args.entries.now.items in
    let here = map (descriptor_for config machine (planned_view planned) own) (names_of_section (section_view planned.section)) in
    let some : 0 < length sections = search rules in
    let first = section-first sections planned some c.index-sections-0.is in
    let all = subst (AllByRecursion (IsAccepted machine c.args.self.now)) first accepted in
    let after = c.places_after.ensures machine has all.0 in
    let four = subst LieOnFour (sym after) (four-after config machine (planned_view planned) own on) in
    c.add_sections.ensures.entries machine has all.1 four
    ∙ ap (λ before. before ++ sections_entries config machine (planned_views (others-of sections)) (map place_view c.places_after.result.now)) (c.add_entries.ensures.entries machine has all.0 on)
    ∙ append_assoc old here (sections_entries config machine (planned_views (others-of sections)) (map place_view c.places_after.result.now))
    ∙ ap (λ places. old ++ (here ++ sections_entries config machine (planned_views (others-of sections)) places)) after
    ∙ ap (λ (sections : List PlannedSection). old ++ sections_entries config machine (planned_views sections) own) (sym first)
