-- Sections that are planned one after the other, until one is refused.
use Rattle.std.proofs.Common.{◌≡◌, ◌<◌, ◌≤◌, ℕ, zero, suc, ◌+◌, List, [], ◌∷◌, ◌++◌, length, map, take, Option, Some, None, Result, Ok, Err, refl, sym, ap, subst, ◌∙◌, arith, add-one, append_assoc, append-nil}
use Rattle.std.specs.Prelude.{slice_index_or}
use Rattle.std.specs.Prelude.{IfErr, OnOk}
use Rattle.std.proofs.lemmas.List.{take_all, map-append}
use Rattle.disk_trait.specs.Past.{Past, Told, now_of}
use Rattle.lilo_model.specs.Checks.{◌>>=◌}
use Rattle.lilo_model.specs.Disks.{Image, Machine}
use Rattle.lilo_model.specs.Conf.{ConfSection}
use Rattle.lilo_model.specs.MinixParts.{Volume}
use Rattle.lilo_model.specs.MinixNames.{IsSound}
use Rattle.lilo_model.specs.Plan.{MappedSection}
use Rattle.lilo_model.specs.PlanRefusal as model
use Rattle.lilo_conf.specs.declared.section.Section.{Section}
use Rattle.lilo_conf.specs.View.{section_view}
use Rattle.map_plan.specs.declared.fault.PlanFault.{PlanFault}
use Rattle.map_plan.specs.declared.fault.PlanFault.TheVariants as faults
use Rattle.map_plan.specs.declared.section.PlannedSection.{PlannedSection}
use Rattle.map_plan.specs.Sections.{section_planned, sections_planned, planned_view, planned_views, with_section}
use Rattle.map_plan.specs.View.{IsRefusal, Refuses, Gives, plan_refusal}

module _ {X : Type 0} (image : Image) (machine : Machine) (volume : Volume) (view : X → ConfSection) where
  abbrev planned : List X → Result (List MappedSection) model.PlanFault
  planned xs = sections_planned image machine volume (map view xs)

  abbrev planned_one : X → Result (List MappedSection) model.PlanFault
  planned_one x = section_planned image machine volume (view x)

  pub sections-more : (xs : List X) (index : ℕ) (other : X) (before after : List MappedSection) → index < length xs
      → planned (take index xs) ≡ Ok before → with_section before (planned_one (slice_index_or xs index other)) ≡ Ok after
      → planned (take (suc index) xs) ≡ Ok after
  sections-more [] index other before after below is made = absurd (omega (arith, below))
  sections-more (x ∷ xs) zero other before after below is made = by (planned_one x) refl made
    where
      by : (found : Result (List MappedSection) model.PlanFault) → planned_one x ≡ found → with_section before found ≡ Ok after
          → (planned_one x >>= λ here. Ok (here ++ [])) ≡ Ok after
      by (Ok here) at made =
          let none : [] ≡ before = cc in
          let all : before ++ here ≡ after = cc in
          rw at (ap Ok (append-nil here ∙ ap (λ before. before ++ here) none ∙ all))
      by (Err fault) at made = cc
  sections-more (x ∷ xs) (suc index) other before after below is made =
      by (planned_one x) (planned (take index xs)) (planned_one (slice_index_or xs index other)) refl refl refl is made
      (λ others all so. sections-more xs index other others all (omega (arith, below)) so)
    where
      by : (first rest found : Result (List MappedSection) model.PlanFault) → planned_one x ≡ first → planned (take index xs) ≡ rest
          → planned_one (slice_index_or xs index other) ≡ found
          → (first >>= λ here. rest >>= λ others. Ok (here ++ others)) ≡ Ok before → with_section before found ≡ Ok after
          → ((others all : List MappedSection) → planned (take index xs) ≡ Ok others
          → with_section others (planned_one (slice_index_or xs index other)) ≡ Ok all → planned (take (suc index) xs) ≡ Ok all)
          → (planned_one x >>= λ here. planned (take (suc index) xs) >>= λ others. Ok (here ++ others)) ≡ Ok after
      by (Ok here) (Ok others) (Ok last) one two three is made more =
          let first : here ++ others ≡ before = cc in
          let all : before ++ last ≡ after = cc in
          let so = more others (others ++ last) two (ap (with_section others) three) in
          rw (one, so) (ap Ok (sym (append_assoc here others last) ∙ ap (λ before. before ++ last) first ∙ all))
      by (Ok here) (Ok others) (Err fault) one two three is made more = cc
      by (Ok here) (Err fault) found one two three is made more = cc
      by (Err fault) rest found one two three is made more = cc

  sections-stop : (xs : List X) (index : ℕ) (other : X) (before : List MappedSection) (fault : model.PlanFault) → index < length xs
      → planned (take index xs) ≡ Ok before → planned_one (slice_index_or xs index other) ≡ Err fault → planned xs ≡ Err fault
  sections-stop [] index other before fault below is refused = absurd (omega (arith, below))
  sections-stop (x ∷ xs) zero other before fault below is refused = rw refused refl
  sections-stop (x ∷ xs) (suc index) other before fault below is refused =
      by (planned_one x) (planned (take index xs)) refl refl is (λ others so. sections-stop xs index other others fault (omega (arith, below)) so refused)
    where
      by : (first rest : Result (List MappedSection) model.PlanFault) → planned_one x ≡ first → planned (take index xs) ≡ rest
          → (first >>= λ here. rest >>= λ others. Ok (here ++ others)) ≡ Ok before
          → ((others : List MappedSection) → planned (take index xs) ≡ Ok others → planned xs ≡ Err fault)
          → (planned_one x >>= λ here. planned xs >>= λ others. Ok (here ++ others)) ≡ Err fault
      by (Ok here) (Ok others) one two is stops = rw (one, stops others two) refl
      by (Ok here) (Err fault) one two is stops = cc
      by (Err fault) rest one two is stops = cc

  pub sections-refused : (xs : List X) (index : ℕ) (other : X) (before : List MappedSection) (fault : PlanFault) → index < length xs
      → planned (take index xs) ≡ Ok before → Refuses fault (with_section before (planned_one (slice_index_or xs index other)))
      → Refuses fault (planned xs)
  sections-refused xs index other before fault below is refused = by (plan_refusal fault) refused
    where
      refusal-of : (found : Result (List MappedSection) model.PlanFault) (refusal : model.PlanFault) → with_section before found ≡ Err refusal → found ≡ Err refusal
      refusal-of (Ok here) refusal made = cc
      refusal-of (Err fault) refusal made = cc

      by : (refusal : Option model.PlanFault) → IsRefusal refusal (with_section before (planned_one (slice_index_or xs index other)))
          → IsRefusal refusal (planned xs)
      by None refused = tt
      by (Some refusal) refused =
          sections-stop xs index other before refusal below is (refusal-of (planned_one (slice_index_or xs index other)) refusal refused)

  pub sections-all : (xs : List X) (index : ℕ) (found : List MappedSection) → length xs ≤ index → planned (take index xs) ≡ Ok found → planned xs ≡ Ok found
  sections-all xs index found over is = ap planned (sym (take_all index xs over)) ∙ is

-- ---- where the past is told

module _ (machine : Machine) (volume : Volume) where
  pub found-none : (past : Option Past) (found : List PlannedSection) → found ≡ []
      → Told past (λ now. IsSound volume now → sections_planned now machine volume [] ≡ Ok (planned_views found))
  found-none None found none = tt
  found-none (Some past) found none = λ sound. rw none refl

  module _ (sections : List Section) (index : ℕ) (other : Section) (below : index < length sections) (before : List MappedSection) where
    abbrev So : Option Past → Type 0
    So past = Told past (λ now. IsSound volume now → sections_planned now machine volume (map section_view (take index sections)) ≡ Ok before)

    pub found-more : (past : Option Past) (after : List MappedSection) → So past
        → Told past (λ now. IsSound volume now
        → with_section before (section_planned now machine volume (section_view (slice_index_or sections index other))) ≡ Ok after)
        → Told past (λ now. IsSound volume now → sections_planned now machine volume (map section_view (take (index + 1) sections)) ≡ Ok after)
    found-more None after so here = tt
    found-more (Some past) after so here = λ sound.
        subst (λ n. sections_planned (now_of past) machine volume (map section_view (take n sections)) ≡ Ok after) (sym (add-one index))
        (sections-more (now_of past) machine volume section_view sections index other before after below (so sound) (here sound))

    pub refused-more : (past : Option Past) (fault : PlanFault) → So past
        → Told past (λ now. IsSound volume now
        → Refuses fault (with_section before (section_planned now machine volume (section_view (slice_index_or sections index other)))))
        → Told past (λ now. IsSound volume now → Refuses fault (sections_planned now machine volume (map section_view sections)))
    refused-more None fault so here = tt
    refused-more (Some past) fault so here = λ sound.
        sections-refused (now_of past) machine volume section_view sections index other before fault below (so sound) (here sound)

  pub found-all : (sections : List Section) (index : ℕ) (past : Option Past) (found : List MappedSection) → length sections ≤ index
      → Told past (λ now. IsSound volume now → sections_planned now machine volume (map section_view (take index sections)) ≡ Ok found)
      → Told past (λ now. IsSound volume now → sections_planned now machine volume (map section_view sections) ≡ Ok found)
  found-all sections index None found over so = tt
  found-all sections index (Some past) found over so = λ sound.
      sections-all (now_of past) machine volume section_view sections index found over (so sound)

-- ---- a section is added

module _ (machine : Machine) (volume : Volume) (section : ConfSection) (before : List PlannedSection) where
  abbrev pub Added : Option Past → List PlannedSection → Result (Unit {0}) PlanFault → Type 0
  Added past after result = Told past (λ now. IsSound volume now
      → Gives (λ done. planned_views after) result (with_section (planned_views before) (section_planned now machine volume section)))

  pub section-added : (past : Option Past) (planned : PlannedSection) (after : List PlannedSection) (result : Result (Unit {0}) PlanFault)
      → Told past (λ now. IsSound volume now → section_planned now machine volume section ≡ Ok (planned_view planned ∷ []))
      → OnOk result (after ≡ before ++ (planned ∷ [])) → IfErr result (λ fault. fault ≡ faults.Memory) → Added past after result
  section-added None planned after result found pushed memory = tt
  section-added (Some past) planned after (Ok done) found pushed memory = λ sound.
      ap (with_section (planned_views before)) (found sound)
      ∙ ap Ok (sym (map-append planned_view before (planned ∷ [])) ∙ ap planned_views (sym pushed))
  section-added (Some past) planned after (Err fault) found pushed memory = λ sound.
      subst (λ fault. Refuses fault (with_section (planned_views before) (section_planned (now_of past) machine volume section))) (sym memory) tt

  pub section-skipped : (past : Option Past) (result : Result (Unit {0}) PlanFault)
      → Told past (λ now. IsSound volume now → section_planned now machine volume section ≡ Ok [])
      → IfErr result (λ fault. fault ≡ faults.Memory) → Added past before result
  section-skipped None result found memory = tt
  section-skipped (Some past) (Ok done) found memory = λ sound.
      ap (with_section (planned_views before)) (found sound) ∙ ap Ok (append-nil (planned_views before))
  section-skipped (Some past) (Err fault) found memory = λ sound.
      subst (λ fault. Refuses fault (with_section (planned_views before) (section_planned (now_of past) machine volume section))) (sym memory) tt
