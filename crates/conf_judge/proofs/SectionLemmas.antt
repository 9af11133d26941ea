-- Sections, each judged after those before it.
use Rattle.std.proofs.Common.{◌≡◌, ◌∙◌, ℕ, ◌+◌, ◌≤◌, ◌<◌, Bool, true, false, List, [], ◌∷◌, ◌++◌, length, take, drop, get_or, refl, sym, ap, add-one, drop-cons, append-nil, arith}
use Rattle.std.specs.Prelude.{Option, None, Some, Err, ◌||◌, ◌==◌, flat_map, nat_lt}
use Rattle.std.specs.Borrow.{Bor}
use Rattle.std.specs.List.{list_any}
use Rattle.std.specs.Option.{option_map}
use Rattle.std.proofs.lemmas.Bool.{ltb-false, eqb-true}
use Rattle.std.proofs.lemmas.List.{take_more, map-append}
use Rattle.std.proofs.lemmas.List.Folds.{list_any-append}
use Rattle.std.proofs.lemmas.Grind.{flat_map-append}
use Rattle.lilo_model.specs.Checks.{with_fault}
use Rattle.lilo_model.specs.Conf as conf
use Rattle.lilo_model.specs.ConfOptions as options
use Rattle.lilo_model.specs.ConfRefusal as reasons
use Rattle.lilo_model.specs.ConfRefusal.{ConfRefusal}
use Rattle.lilo_model.specs.ConfSettings as model
use Rattle.conf_settings.specs.View.{fault_view, settings_view}
use Rattle.conf_settings.specs.declared.reason.ConfFault.{ConfFault}
use Rattle.conf_settings.specs.declared.setting.Setting.{Setting}
use Rattle.conf_judge.specs.View.{lists_view, names_of}
use Rattle.conf_judge.specs.Wanted.{wanted_refusal}

-- the sections from a place on begin with the one there
pub lists_at : (all : List (Bor (List Setting))) (index : ℕ) (section : Bor (List Setting)) → index < length all → section ≡ get_or all index section
    → lists_view (drop index all) ≡ settings_view section.now ∷ lists_view (drop (index + 1) all)
lists_at all index section within is =
    rw (add-one, drop-cons all index section within, ← is) refl

-- a section that is refused is the first refusal
pub sections_refusal-here : (front section : List model.Setting) (behind : List (List model.Setting)) (fault : ConfFault)
    → Some (fault_view fault) ≡ option_map (λ x. Some x) (conf.section_refusal front section)
    → Some (fault_view fault) ≡ option_map (λ x. Some x) (conf.sections_refusal front (section ∷ behind))
unfolding conf.sections_refusal
sections_refusal-here front section behind fault = by (conf.section_refusal front section) refl
  where
    by : (judged : Option ConfRefusal) → conf.section_refusal front section ≡ judged
        → Some (fault_view fault) ≡ option_map (λ x. Some x) judged
        → Some (fault_view fault) ≡ option_map (λ x. Some x) (conf.sections_refusal front (section ∷ behind))
    by None is told = let e = told in cc
    by (Some judged) is told = rw (is, conf.sections_refusal) told

-- one that isn't comes before the rest
pub sections_refusal-next : (front section : List model.Setting) (behind : List (List model.Setting))
    → None ≡ option_map (λ x. Some x) (conf.section_refusal front section)
    → conf.sections_refusal front (section ∷ behind) ≡ conf.sections_refusal front behind
unfolding conf.sections_refusal
sections_refusal-next front section behind = by (conf.section_refusal front section) refl
  where
    by : (judged : Option ConfRefusal) → conf.section_refusal front section ≡ judged → None ≡ option_map (λ x. Some x) judged
        → conf.sections_refusal front (section ∷ behind) ≡ conf.sections_refusal front behind
    by None is told = rw (is, conf.sections_refusal) refl
    by (Some judged) is told = let e = told in cc

-- names that are refused after others are the first refusal
pub names_from-here : (names : List (List ℕ)) (section : List model.Setting) (behind : List (List model.Setting)) (fault : ConfFault)
    → Some (fault_view fault) ≡ option_map (λ x. Some x) (conf.names_reason names section)
    → Err (fault_view fault) ≡ with_fault (λ x. Some x) (conf.names_from names (section ∷ behind))
unfolding conf.names_from
names_from-here names section behind fault = by (conf.names_reason names section) refl
  where
    by : (judged : Option ConfRefusal) → conf.names_reason names section ≡ judged
        → Some (fault_view fault) ≡ option_map (λ x. Some x) judged
        → Err (fault_view fault) ≡ with_fault (λ x. Some x) (conf.names_from names (section ∷ behind))
    by None is told = let e = told in cc
    by (Some judged) is told = let e : fault_view fault ≡ Some judged = cc in rw (is, conf.names_from, e) refl

-- those that aren't come before the rest
pub names_from-next : (names : List (List ℕ)) (section : List model.Setting) (behind : List (List model.Setting))
    → None ≡ option_map (λ x. Some x) (conf.names_reason names section)
    → conf.names_from names (section ∷ behind) ≡ conf.names_from (names ++ conf.section_names section) behind
unfolding conf.names_from
names_from-next names section behind = by (conf.names_reason names section) refl
  where
    by : (judged : Option ConfRefusal) → conf.names_reason names section ≡ judged → None ≡ option_map (λ x. Some x) judged
        → conf.names_from names (section ∷ behind) ≡ conf.names_from (names ++ conf.section_names section) behind
    by None is told = rw (is, conf.names_from) refl
    by (Some judged) is told = let e = told in cc

-- the names of sections up to and with a place end with those of the one there
pub names_of-more : (all : List (Bor (List Setting))) (index : ℕ) (section : Bor (List Setting)) → index < length all → section ≡ get_or all index section
    → names_of (take (index + 1) all) ≡ names_of (take index all) ++ conf.section_names (settings_view section.now)
names_of-more all index section within is =
    rw (take_more all index section within, ← is)
    (ap (flat_map conf.section_names) (map-append (λ list. settings_view list.now) (take index all) (section ∷ []))
    ∙ flat_map-append conf.section_names (lists_view (take index all)) (settings_view section.now ∷ [])
    ∙ ap (λ behind. names_of (take index all) ++ behind) (append-nil (conf.section_names (settings_view section.now))))

-- names that aren't refused are few
pub names_reason-few : (names : List (List ℕ)) (section : List model.Setting) → None ≡ option_map (λ x. Some x) (conf.names_reason names section)
    → length names + length (conf.section_names section) ≤ 19
unfolding conf.names_reason conf.section_names conf.many_refusal
names_reason-few names section = by (conf.has_name (conf.section_label section) names) refl
  where
    counted : (many : Bool) (count : ℕ) → nat_lt 19 count ≡ many → None ≡ option_map (λ x. Some x) (conf.many_refusal count section) → count ≤ 19
    counted true count is none = let e = rw (is, conf.many_refusal) at none in cc
    counted false count is none = ltb-false 19 count is

    aliased : (alias : Option (List ℕ)) → conf.value_of options.Alias section ≡ alias → conf.has_name (conf.section_label section) names ≡ false
        → None ≡ option_map (λ x. Some x) (conf.names_reason names section) → length names + length (conf.section_names section) ≤ 19
    aliased None alias is none = rw alias (counted _ (length names + 1) refl (rw (is, conf.names_reason, alias) at none))
    aliased (Some name) alias is none = rw alias (behind (conf.has_name name (names ++ conf.section_label section ∷ [])) refl)
      where
        behind : (repeated : Bool) → conf.has_name name (names ++ conf.section_label section ∷ []) ≡ repeated → length names + 2 ≤ 19
        behind true two = let e = rw (is, conf.names_reason, alias, two) at none in cc
        behind false two = counted _ (length names + 2) refl (rw (is, conf.names_reason, alias, two) at none)

    by : (repeated : Bool) → conf.has_name (conf.section_label section) names ≡ repeated
        → None ≡ option_map (λ x. Some x) (conf.names_reason names section) → length names + length (conf.section_names section) ≤ 19
    by true is none = let e = rw (is, conf.names_reason) at none in cc
    by false is none = aliased _ refl is none

-- whether a name is among those of some of many
pub any-flat_map : {A B : Type 0} (f : A → List B) (p : B → Bool) (xs : List A)
    → list_any (λ x. list_any p (f x)) xs ≡ list_any p (flat_map f xs)
any-flat_map f p [] = refl
any-flat_map f p (x ∷ xs) = ap (λ behind. list_any p (f x) || behind) (any-flat_map f p xs) ∙ sym (list_any-append p (f x) (flat_map f xs))

-- without sections there is nothing to boot
pub default_refusal-empty : (front : List model.Setting) (sections : List (Bor (List Setting))) → (length sections == 0) ≡ true
    → conf.default_refusal front (names_of sections) ≡ Some (record { reason = reasons.NoImages; option = options.Image; line = 0 })
unfolding conf.default_refusal
default_refusal-empty front [] none = refl
default_refusal-empty front (section ∷ sections) none = let zero : length (section ∷ sections) ≡ 0 = eqb-true _ _ none in absurd (omega arith)

-- where there are sections, a default that is asked for is judged beside their names
pub default_refusal-at : (front : List model.Setting) (sections : List (Bor (List Setting))) (wanted : List ℕ) → (length sections == 0) ≡ false
    → conf.value_of options.Default front ≡ Some wanted
    → conf.default_refusal front (names_of sections) ≡ wanted_refusal front wanted (names_of sections)
unfolding conf.default_refusal conf.section_names
default_refusal-at front [] wanted some is = let e = some in cc
default_refusal-at front (section ∷ sections) wanted some is = rw (is, conf.default_refusal) refl

-- and none is fine
pub default_refusal-none : (front : List model.Setting) (sections : List (Bor (List Setting))) → (length sections == 0) ≡ false
    → conf.value_of options.Default front ≡ None → conf.default_refusal front (names_of sections) ≡ None
unfolding conf.default_refusal conf.section_names
default_refusal-none front [] some is = let e = some in cc
default_refusal-none front (section ∷ sections) some is = rw (is, conf.default_refusal) refl
