-- The lines of an installation that is planned, one after the other.
use Rattle.std.proofs.Common.{◌≡◌, ◌<◌, ◌+◌, ℕ, zero, suc, Bool, true, false, List, [], ◌∷◌, ◌++◌, codes, length, take, Option, None, Some, refl, sym, ◌∙◌, ap, subst, append_assoc, append-nil, arith}
use Rattle.std.specs.Prelude.{◌==◌, slice_index_or}
use Rattle.std.specs.List.{flat_map}
use Rattle.lilo_model.specs.Verdict.{name_line}
use Rattle.install_laws.specs.InstallVerdict.{added_lines, clear_line, warning_line}
use Rattle.install_run.specs.Reports.{clear_text}

pub warning_is : (clear : Option Bool) → clear_text [] (codes "Warning: the old map isn't clear.\n") clear ≡ warning_line clear
warning_is None = refl
warning_is (Some true) = refl
warning_is (Some false) = refl

pub clear_is : (clear : Option Bool) → clear_text (codes "Old map is clear.\n") (codes "Old map isn't clear.\n") clear ≡ clear_line clear
clear_is None = refl
clear_is (Some true) = refl
clear_is (Some false) = refl

-- one more
flat-more : (f : List ℕ → List ℕ) (items : List (List ℕ)) (index : ℕ) (other : List ℕ) → index < length items
    → flat_map f (take index items) ++ f (slice_index_or items index other) ≡ flat_map f (take (suc index) items)
flat-more f [] index other low = absurd (omega (arith, low))
flat-more f (item ∷ items) zero other low = sym (append-nil (f item))
flat-more f (item ∷ items) (suc index) other low =
    append_assoc (f item) (flat_map f (take index items)) (f (slice_index_or items index other))
    ∙ ap (λ (rest : List ℕ). f item ++ rest) (flat-more f items index other (omega (arith, low)))

abbrev line_at : ℕ → ℕ → List ℕ → List ℕ
line_at default place name = codes "Added " ++ name_line (place == default) name

added-more : (default place : ℕ) (items : List (List ℕ)) (index : ℕ) (other : List ℕ) → index < length items
    → added_lines default place (take index items) ++ line_at default (place + index) (slice_index_or items index other) ≡ added_lines default place (take (suc index) items)
added-more default place [] index other low = absurd (omega (arith, low))
added-more default place (item ∷ items) zero other low =
    let here : place + 0 ≡ place = omega arith in
    ap (λ (at : ℕ). line_at default at item) here ∙ sym (append-nil (line_at default place item))
added-more default place (item ∷ items) (suc index) other low =
    let next : place + suc index ≡ place + 1 + index = omega arith in
    append_assoc (line_at default place item) (added_lines default (place + 1) (take index items)) (line_at default (place + suc index) (slice_index_or items index other))
    ∙ ap (λ (rest : List ℕ). line_at default place item ++ rest)
    (ap (λ (at : ℕ). added_lines default (place + 1) (take index items) ++ line_at default at (slice_index_or items index other)) next
    ∙ added-more default (place + 1) items index other (omega (arith, low)))

-- as a loop over some items has it
module _ (items given : List (List ℕ)) (index : ℕ) (item : List ℕ) (all : items ≡ given) (is : item ≡ slice_index_or items index item) (low : index < length items) where
  pub skipped_next : (f : List ℕ → List ℕ) → flat_map f (take index given) ++ f item ≡ flat_map f (take (index + 1) given)
  skipped_next f =
      let next : suc index ≡ index + 1 = omega arith in
      subst (λ (names : List (List ℕ)). flat_map f (take index names) ++ f item ≡ flat_map f (take (index + 1) names)) all
      (ap (λ (name : List ℕ). flat_map f (take index items) ++ f name) is
      ∙ (flat-more f items index item low ∙ ap (λ (count : ℕ). flat_map f (take count items)) next))

  pub added_next : (default : ℕ) → added_lines default 0 (take index given) ++ line_at default index item ≡ added_lines default 0 (take (index + 1) given)
  added_next default =
      let next : suc index ≡ index + 1 = omega arith in
      let from : 0 + index ≡ index = omega arith in
      subst (λ (names : List (List ℕ)). added_lines default 0 (take index names) ++ line_at default index item ≡ added_lines default 0 (take (index + 1) names)) all
      (ap (λ (name : List ℕ). added_lines default 0 (take index items) ++ line_at default index name) is
      ∙ (ap (λ (at : ℕ). added_lines default 0 (take index items) ++ line_at default at (slice_index_or items index item)) (sym from)
      ∙ (added-more default 0 items index item low ∙ ap (λ (count : ℕ). added_lines default 0 (take count items)) next)))
