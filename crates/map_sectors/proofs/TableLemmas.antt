-- The entries of a table.
use Rattle.std.proofs.Common.{◌≡◌, ◌≤◌, ◌<◌, suc, ◌-◌, List, [], ◌∷◌, map, length, take, drop, get_or, sym, ap, ◌∙◌, arith}
use Rattle.std.proofs.lemmas.List.{length-map, take_all}
use Rattle.lilo_model.specs.Disks.{DiskSector, Machine}
use Rattle.lilo_model.specs.Table.{Descriptor}
use Rattle.lilo_model.specs.Plan.{plan_entries, sections_places}
use Rattle.boot_map.specs.declared.descriptor.Descriptor as entries
use Rattle.boot_map.specs.View.{descriptor_view}
use Rattle.map_laws.proofs.Whole.{names-of-entries}
use Rattle.map_plan.specs.declared.section.PlannedSection.{PlannedSection}
use Rattle.map_sectors.specs.declared.map.MapPlan.{MapPlan}
use Rattle.map_sectors.specs.Accepted.{IsFor}
use Rattle.map_sectors.specs.Map.{plan_view}

-- a plan has 19 entries at most
pub few-entries : (machine : Machine) (plan : MapPlan) (places : List DiskSector) (found : List entries.Descriptor) → IsFor machine plan
    → map descriptor_view found ≡ plan_entries (plan_view plan) machine places → length found ≤ 24
unfolding plan_entries
few-entries machine plan places found fits is =
    let names = ap length (names-of-entries (plan_view plan).config machine (plan_view plan).sections (sections_places (plan_view plan) machine places)) in
    let kept = ap length plan.named in
    let long = length-map found descriptor_view in
    let same = ap length is in
    let as-long = length-map (plan_entries (plan_view plan) machine places) (λ (entry : Descriptor). entry.name) in
    let few = fits.names in
    omega (arith, names, kept, long, same, as-long, few)

-- all sections but the first
abbrev pub others-of : List PlannedSection → List PlannedSection
others-of sections = take (length sections - 1) (drop 1 sections)

-- the first of some sections, and the others
pub section-first : (sections : List PlannedSection) (planned : PlannedSection) → 0 < length sections → planned ≡ get_or sections 0 planned
    → sections ≡ planned ∷ others-of sections
section-first [] planned some is = absurd (omega (arith, some))
section-first (first ∷ others) planned some is =
    ap (λ (planned : PlannedSection). planned ∷ others) (sym is)
    ∙ ap (λ (others : List PlannedSection). planned ∷ others) (sym (take_all (suc (length others) - 1) others (omega arith)))
