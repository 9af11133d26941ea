-- The names of sections, one after the other.
use Rattle.std.proofs.Common.{◌≡◌, ◌<◌, ◌≤◌, ℕ, ◌+◌, List, [], ◌∷◌, ◌++◌, length, take, Ok, Err, refl, sym, ap, ◌∙◌, arith, append-nil}
use Rattle.std.specs.Prelude.{slice_index_or}
use Rattle.std.proofs.lemmas.List.{take_more, take_all, map-append}
use Rattle.std.proofs.lemmas.Grind.{flat_map-append}
use Rattle.lilo_model.specs.ConfLawful.{names_of_section}
use Rattle.lilo_model.specs.Plan.{MappedSection}
use Rattle.lilo_model.specs.PlanRefusal as model
use Rattle.lilo_model.specs.PlanRefusal.{left_check}
use Rattle.lilo_conf.specs.View.{section_view}
use Rattle.map_plan.specs.declared.section.PlannedSection.{PlannedSection}
use Rattle.map_plan.specs.Names.{names_of}
use Rattle.map_plan.specs.Sections.{planned_view, planned_views}

module _ (sections : List PlannedSection) (index : ℕ) (planned : PlannedSection) (below : index < length sections)
    (item : planned ≡ slice_index_or sections index planned) where
  pub names-more : names_of (planned_views (take (index + 1) sections))
      ≡ names_of (planned_views (take index sections)) ++ names_of_section (section_view planned.section)
  names-more =
      ap (λ sections. names_of (planned_views sections)) (take_more sections index planned below ∙ ap (λ planned. take index sections ++ (planned ∷ [])) (sym item))
      ∙ ap names_of (map-append planned_view (take index sections) (planned ∷ []))
      ∙ flat_map-append (λ (mapped : MappedSection). names_of_section mapped.section) (planned_views (take index sections)) (planned_view planned ∷ [])
      ∙ ap (λ last. names_of (planned_views (take index sections)) ++ last) (append-nil (names_of_section (section_view planned.section)))

pub names-all : (sections : List PlannedSection) (index : ℕ) → length sections ≤ index → names_of (planned_views (take index sections)) ≡ names_of (planned_views sections)
names-all sections index over = ap (λ sections. names_of (planned_views sections)) (take_all index sections over)

-- ---- whether a section is left

pub left-none : (sections : List PlannedSection) → length sections ≡ 0 → left_check (planned_views sections) ≡ Err model.NoImagesLeft
left-none [] none = refl
left-none (planned ∷ sections) none = absurd (omega (arith, none))

pub left-some : (sections : List PlannedSection) → 1 ≤ length sections → left_check (planned_views sections) ≡ Ok tt
left-some [] some = absurd (omega (arith, some))
left-some (planned ∷ sections) some = refl
