-- The paths of sections that are omitted.
use Rattle.std.proofs.Common.{◌≡◌, ◌<◌, ◌≤◌, ℕ, ◌+◌, List, [], ◌∷◌, ◌++◌, length, map, take, Option, Some, None, Result, Ok, Err, refl, sym, ap, subst, ◌∙◌, append-nil, arith}
use Rattle.std.specs.Prelude.{slice_index_or, flat_map, OnOk}
use Rattle.std.proofs.lemmas.List.{take_more, take_all, map-append}
use Rattle.std.proofs.lemmas.Grind.{flat_map-append}
use Rattle.disk_trait.specs.Past.{Past, Told, now_of}
use Rattle.lilo_model.specs.Conf.{Config, ConfSection}
use Rattle.lilo_model.specs.ConfLawful.{IsLawful, names_of_section, names_of_config}
use Rattle.lilo_model.specs.Disks.{Image, Machine}
use Rattle.lilo_model.specs.MinixParts.{Volume}
use Rattle.lilo_model.specs.MinixNames.{IsSound}
use Rattle.lilo_model.specs.Plan.{MappedSection}
use Rattle.lilo_model.specs.Planned.{mapped_section}
use Rattle.lilo_conf.specs.declared.section.Section.{Section}
use Rattle.lilo_conf.specs.View.{section_view}
use Rattle.map_plan.specs.declared.fault.PlanFault.{PlanFault}
use Rattle.map_plan.specs.Sections.{section_planned}
use Rattle.map_plan.specs.Skipped.{skipped_path, skipped_paths}
use Rattle.map_plan.proofs.SectionLemmas.{section_plan_law}

module _ (machine : Machine) (volume : Volume) (section : ConfSection) where
  abbrev IsPlanned : Option Past → List MappedSection → Type 0
  IsPlanned past found = Told past (λ now. IsSound volume now → section_planned now machine volume section ≡ Ok found)

  abbrev Skips : Option Past → List (List ℕ) → List (List ℕ) → Type 0
  Skips past before after =
      Told past (λ now. IsSound volume now → after ≡ before ++ skipped_path section (mapped_section now machine volume section))

  by-planned : (image : Image) (found : List MappedSection) (before after : List (List ℕ)) → section_planned image machine volume section ≡ Ok found
      → after ≡ before ++ skipped_path section found → after ≡ before ++ skipped_path section (mapped_section image machine volume section)
  by-planned image found before after planned is =
      subst (λ (mapped : List MappedSection). after ≡ before ++ skipped_path section mapped)
      (sym ((section_plan_law image machine volume section).mapped found planned)) is

  kept-by : (past : Option Past) (planned : MappedSection) (before : List (List ℕ)) → IsPlanned past (planned ∷ []) → Skips past before before
  kept-by None planned before found = tt
  kept-by (Some past) planned before found = λ sound. by-planned (now_of past) (planned ∷ []) before before (found sound) (sym (append-nil before))

  pub kept-skips : (past : Option Past) (planned : MappedSection) (before : List (List ℕ)) (result : Result (Unit {0}) PlanFault)
      → IsPlanned past (planned ∷ []) → OnOk result (Skips past before before)
  kept-skips past planned before (Ok done) found = kept-by past planned before found
  kept-skips past planned before (Err fault) found = tt

  omitted-by : (past : Option Past) (before after : List (List ℕ)) → IsPlanned past [] → after ≡ before ++ (section.path ∷ []) → Skips past before after
  omitted-by None before after found is = tt
  omitted-by (Some past) before after found is = λ sound. by-planned (now_of past) [] before after (found sound) is

  pub omitted-skips : (past : Option Past) (before after : List (List ℕ)) (result : Result (Unit {0}) PlanFault)
      → IsPlanned past [] → OnOk result (after ≡ before ++ (section.path ∷ [])) → OnOk result (Skips past before after)
  omitted-skips past before after (Ok done) found is = omitted-by past before after found is
  omitted-skips past before after (Err fault) found is = tt

-- ---- section by section

module _ (machine : Machine) (volume : Volume) where
  abbrev AreSkipped : Option Past → List ConfSection → List (List ℕ) → Type 0
  AreSkipped past sections skipped = Told past (λ now. IsSound volume now → skipped ≡ skipped_paths now machine volume sections)

  pub skips-none : (past : Option Past) (skipped : List (List ℕ)) → skipped ≡ [] → AreSkipped past [] skipped
  skips-none None skipped none = tt
  skips-none (Some past) skipped none = λ sound. none

  module _ (sections : List Section) (index : ℕ) (item : Section) (below : index < length sections) (is : item ≡ slice_index_or sections index item) where
    paths-more : (image : Image) → skipped_paths image machine volume (map section_view (take (index + 1) sections))
        ≡ skipped_paths image machine volume (map section_view (take index sections)) ++ skipped_path (section_view item) (mapped_section image machine volume (section_view item))
    paths-more image =
        let path : ConfSection → List (List ℕ) = λ section. skipped_path section (mapped_section image machine volume section) in
        ap (λ (sections : List Section). flat_map path (map section_view sections))
        (take_more sections index item below ∙ ap (λ item. take index sections ++ (item ∷ [])) (sym is))
        ∙ ap (flat_map path) (map-append section_view (take index sections) (item ∷ []))
        ∙ flat_map-append path (map section_view (take index sections)) (section_view item ∷ [])
        ∙ ap (λ last. flat_map path (map section_view (take index sections)) ++ last) (append-nil (path (section_view item)))

    pub skips-more : (past : Option Past) (before after : List (List ℕ)) → AreSkipped past (map section_view (take index sections)) before
        → Told past (λ now. IsSound volume now → after ≡ before ++ skipped_path (section_view item) (mapped_section now machine volume (section_view item)))
        → AreSkipped past (map section_view (take (index + 1) sections)) after
    skips-more None before after so here = tt
    skips-more (Some past) before after so here = λ sound.
        here sound
        ∙ ap (λ before. before ++ skipped_path (section_view item) (mapped_section (now_of past) machine volume (section_view item))) (so sound)
        ∙ sym (paths-more (now_of past))

  pub skips-all : (sections : List Section) (index : ℕ) (past : Option Past) (skipped : List (List ℕ)) → length sections ≤ index
      → AreSkipped past (map section_view (take index sections)) skipped → AreSkipped past (map section_view sections) skipped
  skips-all sections index None skipped over so = tt
  skips-all sections index (Some past) skipped over so = λ sound.
      so sound ∙ ap (λ (sections : List Section). skipped_paths (now_of past) machine volume (map section_view sections)) (take_all index sections over)

-- ---- each section has a name

length-both : {X : Type 0} (xs ys : List X) → length (xs ++ ys) ≡ length xs + length ys
length-both [] ys = omega arith
length-both (x ∷ xs) ys = let others = length-both xs ys in omega (arith, others)

pub length-view : {X Y : Type 0} (view : X → Y) (xs : List X) → length (map view xs) ≡ length xs
length-view view [] = refl
length-view view (x ∷ xs) = let others = length-view view xs in omega (arith, others)

some-name : (section : ConfSection) → 1 ≤ length (names_of_section section)
unfolding names_of_section
some-name section = omega arith

few-sections : (sections : List ConfSection) → length sections ≤ length (flat_map names_of_section sections)
few-sections [] = omega arith
few-sections (section ∷ sections) =
    let here = some-name section in
    let others = few-sections sections in
    let all = length-both (names_of_section section) (flat_map names_of_section sections) in
    omega (arith, here, others, all)

-- a configuration has 19 sections at most
pub few-lawful : (config : Config) → IsLawful config → length config.sections ≤ 19
unfolding names_of_config
few-lawful config is =
    let names = few-sections config.sections in
    let few = is.few_names in
    omega (arith, names, few)
