-- The names of sections: none appears twice, and there are few.
use Rattle.std.proofs.Common.{◌≡◌, ◌≢◌, ℕ, zero, suc, ◌+◌, ◌≤◌, ◌<◌, get_or, Bool, true, false, List, [], ◌∷◌, ◌++◌, map, length, Some, None, Ok, Option, refl, sym, ◌∙◌, arith}
use Rattle.std.specs.Prelude.{IsTrue, IfSome, AllPairs, bytes_eq, flat_map, nat_lt}
use Rattle.std.proofs.lemmas.Bool.{ltb-false, or_parts}
use Rattle.std.proofs.lemmas.List.{length-append, append_assoc, append-nil}
use Rattle.std.proofs.lemmas.List.Quantifiers.{all_pairs_push}
use Rattle.std.proofs.lemmas.Slice.Eq.{bytes_eq-Decides}
use Rattle.lilo_model.specs.ConfOptions as options
use Rattle.lilo_model.specs.ConfRefusal.{ConfRefusal}
use Rattle.lilo_model.specs.ConfSettings.{Setting}
use Rattle.lilo_model.specs.ConfValues.{names_limit}
use Rattle.lilo_model.specs.Conf.{value_of, section_label, section_of, has_name, section_names, many_refusal, names_reason, names_from, default_refusal}
use Rattle.lilo_model.specs.ConfLawful.{names_of_section}

-- the names of the section that settings say
pub names_of_section-names : (front section : List Setting) → names_of_section (section_of front section) ≡ section_names section
unfolding names_of_section section_of section_names
names_of_section-names front section = by (value_of options.Alias section)
  where
    by : (alias : Option (List ℕ)) → names_of_section (record (section_of front section) { alias = alias }) ≡ section_label section ∷ elim alias [ None ↦ [] | Some name ↦ name ∷ [] ]
    by None = refl
    by (Some name) = refl

pub names_of-sections : (front : List Setting) (sections : List (List Setting)) → flat_map names_of_section (map (section_of front) sections) ≡ flat_map section_names sections
names_of-sections front [] = refl
names_of-sections front (section ∷ sections) = rw (names_of_section-names front section, names_of-sections front sections) refl

-- names that may be together
pub record AreNames (names : List (List ℕ)) : Type 0 where
  pub apart : AllPairs (λ one other. one ≢ other) names
  pub few : length names ≤ names_limit

fresh-name : (name : List ℕ) (names : List (List ℕ)) → has_name name names ≡ false → (k : ℕ) (d : List ℕ) → k < length names → get_or names k d ≢ name
fresh-name name [] fresh k d within same = absurd (omega (arith, within))
fresh-name name (first ∷ names) fresh zero d within same =
    let parts = or_parts (bytes_eq first name) (has_name name names) fresh in
    let e = (bytes_eq-Decides first name).1 same in
    let f = parts.0 in
    absurd (cc)
fresh-name name (first ∷ names) fresh (suc k) d within same =
    fresh-name name names (or_parts (bytes_eq first name) (has_name name names) fresh).1 k d (omega (arith, within)) same

push-name : (name : List ℕ) (names : List (List ℕ)) → has_name name names ≡ false → AllPairs (λ one other. one ≢ other) names → AllPairs (λ one other. one ≢ other) (names ++ name ∷ [])
push-name name names fresh apart = all_pairs_push (λ one other. one ≢ other) names name apart (fresh-name name names fresh)

many_refusal-few : (count : ℕ) (section : List Setting) → many_refusal count section ≡ None → count ≤ names_limit
unfolding many_refusal
many_refusal-few count section none = by _ refl
  where
    by : (many : Bool) → nat_lt names_limit count ≡ many → count ≤ names_limit
    by true is = let e = rw is at none in absurd (cc)
    by false is = ltb-false names_limit count is

-- after those of a section that isn't refused they still are
names_reason-names : (names : List (List ℕ)) (section : List Setting) → names_reason names section ≡ None → AreNames names → AreNames (names ++ section_names section)
unfolding names_reason section_names
names_reason-names names section none before = first _ refl
  where
    second : (taken : Bool) (name : List ℕ) → has_name name (names ++ section_label section ∷ []) ≡ taken → value_of options.Alias section ≡ Some name → has_name (section_label section) names ≡ false
        → AreNames (names ++ section_label section ∷ (name ∷ []))
    second true name taken is fresh = let e = rw (fresh, is, taken) at none in absurd (cc)
    second false name taken is fresh =
        let few = many_refusal-few (length names + 2) section (rw (fresh, is, taken) at none) in
        let apart = push-name name (names ++ section_label section ∷ []) taken (push-name (section_label section) names fresh before.apart) in
        record {
          apart = rw (append_assoc names (section_label section ∷ []) (name ∷ [])) at apart;
          few = rw length-append few;
        }

    alias : (other : Option (List ℕ)) → value_of options.Alias section ≡ other → has_name (section_label section) names ≡ false → AreNames (names ++ section_names section)
    alias None is fresh =
        let few = many_refusal-few (length names + 1) section (rw (fresh, is) at none) in
        rw is (record { apart = push-name (section_label section) names fresh before.apart; few = rw length-append few })
    alias (Some name) is fresh = rw is (second _ name refl is fresh)

    first : (taken : Bool) → has_name (section_label section) names ≡ taken → AreNames (names ++ section_names section)
    first true taken = let e = rw taken at none in absurd (cc)
    first false taken = alias _ refl taken

-- what is answered are the names of the sections in order
pub names_from-names : (names : List (List ℕ)) (sections : List (List Setting)) (all : List (List ℕ)) → names_from names sections ≡ Ok all → AreNames names
    → AreNames all × (all ≡ names ++ flat_map section_names sections)
unfolding names_from
names_from-names names [] all is before =
    let same : names ≡ all = cc in
    rw (← same) (before, sym (append-nil names))
names_from-names names (section ∷ sections) all is before = by _ refl
    (λ next rest. names_from-names (names ++ section_names section) sections all rest next)
  where
    by : (refusal : Option ConfRefusal) → names_reason names section ≡ refusal
        → (AreNames (names ++ section_names section) → names_from (names ++ section_names section) sections ≡ Ok all → AreNames all × (all ≡ names ++ section_names section ++ flat_map section_names sections))
        → AreNames all × (all ≡ names ++ (section_names section ++ flat_map section_names sections))
    by (Some refusal) why next = let e = rw (why, names_from) at is in absurd (cc)
    by None why next =
        let rest = next (names_reason-names names section why before) (rw (why, names_from) at is) in
        (rest.0, rest.1 ∙ append_assoc names (section_names section) (flat_map section_names sections))

-- a default that isn't refused is a name of some, and there are names
pub default_refusal-known : (front : List Setting) (names : List (List ℕ)) → default_refusal front names ≡ None
    → (names ≢ []) × IfSome (value_of options.Default front) (λ name. IsTrue (has_name name names))
unfolding default_refusal
default_refusal-known front [] none = absurd (cc)
default_refusal-known front (name ∷ names) none = ((λ e. absurd (cc)), by _ refl)
  where
    known : (wanted : List ℕ) (is_known : Bool) → has_name wanted (name ∷ names) ≡ is_known → value_of options.Default front ≡ Some wanted → IsTrue (has_name wanted (name ∷ names))
    known wanted true is given = is
    known wanted false is given = let e = rw (given, is) at none in absurd (cc)

    by : (found : Option (List ℕ)) → value_of options.Default front ≡ found → IfSome found (λ wanted. IsTrue (has_name wanted (name ∷ names)))
    by None is = tt
    by (Some wanted) is = known wanted _ refl is
