-- The answer on a text is the first test that fails.
use Rattle.std.proofs.Common.{◌≡◌, ℕ, ◌+◌, ◌<◌, ◌≤◌, ◌==◌, Bool, true, false, not, List, [], ◌∷◌, ◌++◌, length, Some, None, Ok, Err, Option, Result, inl, inr, refl, sym, ◌∙◌, ap, subst, arith}
use Rattle.std.specs.Prelude.{if◌then◌else◌, ◌⊎◌, nat_lt, nat_le, flat_map, is_some, IsOk}
use Rattle.std.specs.Option.{option_map}
use Rattle.std.proofs.lemmas.List.{length-append}
use Rattle.std.proofs.lemmas.Bool.Decides.{nat_tests}
use Rattle.std.proofs.lemmas.Bool.{le-leb, ltb-false, ltb-true, lt-ltb, both_ways, not-true}
use Rattle.lilo_model.specs.ConfOptions as options
use Rattle.lilo_model.specs.ConfOptions.{Opt, takes_of, stands_in, opens, is_of_disk, is_of_name, same_option}
use Rattle.lilo_model.specs.ConfValues.{is_name, last_part, name_limit, names_limit}
use Rattle.lilo_model.specs.ConfRefusal as reasons
use Rattle.lilo_model.specs.ConfRefusal.{ConfReason, ConfRefusal}
use Rattle.lilo_model.specs.ConfSettings.{Setting, text_refusal, text_settings}
use Rattle.lilo_model.specs.ConfJudge.{part_after, has_option, excluded_in, setting_reason, settings_refusal}
use Rattle.lilo_model.specs.Conf.{Config, ConfParts, parts_of, value_of, opener_of, opening_line, excludes_line, section_path, section_label, section_names, label_reason, section_refusal, sections_refusal, is_locked_fallback, is_open_restricted, line_of, has_name, many_refusal, names_reason, names_from, default_refusal, conf_limit, too_long, config_of, whole_of, conf_at}
use Rattle.lilo_model.specs.Checks.{◌>>=◌, no_fault}
use Rattle.conf_laws.proofs.Names.{names_from-names}
use Rattle.conf_laws.specs.Order.{ItemFails, disk_behind, PlaceFails, misplaced, misplaced_disk, misplaced_detail, repeated, repeated_disk, repeated_detail, excluded, ValueFails, no_value, unwanted, bad_value, long_name, OptionFails, SettingFails, IsNamedByPath, WholeFails, bad_path_name, long_path_name, locked, restricted, NewNameFails, label, alias, many, names_after, Place, place, IsBefore, Fails, is_long, faulty, unknown, left_out, of_option, of_section, of_names, no_section, of_default, FailsFirst, OrderLaw}
use Rattle.conf_laws.proofs.Reading.{reading_test, meets-cut, unknown-cut, left_out-cut, read-before, refused-read, whole-read, all-reached, all-read, read-fails}
use Rattle.conf_laws.proofs.First.{Answers, first_or, answers-same, only, IsItemBefore, first_in, answers-items, IsOne, within-items, Decides, before-apart, decides-join, decides-stage, decides-one, unless, decides-unless, items-before, three-ways}
use Rattle.conf_laws.proofs.OptionOrder.{answers-option}

-- ---- settings in turn

refused_by : Setting → ConfReason → ConfRefusal
refused_by setting reason = record { reason = reason; option = setting.option; line = setting.line }

one_refusal : List Setting → Setting → Option ConfRefusal
one_refusal own setting = option_map (refused_by setting) (setting_reason own setting)

answers-setting : (own : List Setting) (setting : Setting) → Answers ◌<◌ (SettingFails own setting) (one_refusal own setting)
unfolding one_refusal refused_by
answers-setting own setting = by (setting_reason own setting) (answers-option own setting)
  where
    by : (o : Option ConfReason) → Answers ◌<◌ (OptionFails own setting) o → Answers ◌<◌ (SettingFails own setting) (option_map (refused_by setting) o)
    by None none = λ at r f. none at f.0 f.1
    by (Some reason) (at, fails, first) = (at, (reason, fails, refl), λ before other less f. first before f.0 less f.1)

settings-first : (own settings : List Setting) → settings_refusal own settings ≡ first_in one_refusal part_after own settings
unfolding settings_refusal one_refusal refused_by
settings-first own [] = refl
settings-first own (setting ∷ settings) = by (setting_reason own setting) (settings-first (part_after own setting) settings)
  where
    by : (o : Option ConfReason) → settings_refusal (part_after own setting) settings ≡ first_in one_refusal part_after (part_after own setting) settings
        → elim o [ Some reason ↦ Some (refused_by setting reason) | None ↦ settings_refusal (part_after own setting) settings ]
        ≡ first_or (option_map (refused_by setting) o) (first_in one_refusal part_after (part_after own setting) settings)
    by None rest = rest
    by (Some reason) rest = refl

answers-settings : (settings : List Setting) → Answers IsItemBefore (λ at r. ItemFails SettingFails part_after [] settings at.0 at.1 r) (settings_refusal [] settings)
answers-settings settings = rw (settings-first [] settings) (answers-items SettingFails one_refusal part_after answers-setting settings [])

-- ---- sections as wholes

answers-section : (front section : List Setting) → Answers ◌<◌ (WholeFails front section) (section_refusal front section)
unfolding section_refusal label_reason
answers-section front section = first _ refl
  where
    -- what fails, by its number
    sorted : (t : ℕ) (r : ConfRefusal) → WholeFails front section t r
        → ((t ≡ 1) × IsNamedByPath section × (is_name (last_part (section_path section)) ≡ false))
        ⊎ ((t ≡ 2) × IsNamedByPath section × (name_limit < length (last_part (section_path section))))
        ⊎ ((t ≡ 3) × (is_locked_fallback front section ≡ true))
        ⊎ ((t ≡ 4) × (is_open_restricted front section ≡ true))
    sorted t r (bad_path_name a b) = inl (refl, a, b)
    sorted t r (long_path_name a b) = inr (inl (refl, a, b))
    sorted t r (locked a) = inr (inr (inl (refl, a)))
    sorted t r (restricted a) = inr (inr (inr (refl, a)))

    -- its name isn't refused
    IsFine : Type 0
    IsFine = (t : ℕ) (r : ConfRefusal) → WholeFails front section t r
        → ((t ≡ 3) × (is_locked_fallback front section ≡ true)) ⊎ ((t ≡ 4) × (is_open_restricted front section ≡ true))

    fifth : label_reason section ≡ None → IsFine → is_locked_fallback front section ≡ false → (open' : Bool) → is_open_restricted front section ≡ open' → Answers ◌<◌ (WholeFails front section) (section_refusal front section)
    fifth none fine free true is = rw (none, free, is) (4, restricted is, λ before other less f. elim (fine before other f) [ inl g ↦ both_ways _ free g.1 | inr g ↦ omega (arith, less, g.0) ])
    fifth none fine free false is = rw (none, free, is) (λ at r f. elim (fine at r f) [ inl g ↦ both_ways _ free g.1 | inr g ↦ both_ways _ is g.1 ])

    fourth : label_reason section ≡ None → IsFine → (lock : Bool) → is_locked_fallback front section ≡ lock → Answers ◌<◌ (WholeFails front section) (section_refusal front section)
    fourth none fine true lock = rw (none, lock) (3, locked lock, λ before other less f. elim (fine before other f) [ inl g ↦ omega (arith, less, g.0) | inr g ↦ omega (arith, less, g.0) ])
    fourth none fine false lock = fifth none fine lock _ refl

    third : is_some (value_of options.Label section) ≡ false → is_name (last_part (section_path section)) ≡ true → (long : Bool) → nat_lt name_limit (length (last_part (section_path section))) ≡ long
        → Answers ◌<◌ (WholeFails front section) (section_refusal front section)
    third path named true long = rw (path, named, long) (
      2,
      long_path_name path (ltb-true name_limit _ long),
      λ before other less f. elim (sorted before other f) [
        | inl g ↦ both_ways _ g.2 named
        | inr g ↦ elim g [ inl h ↦ omega (arith, less, h.0) | inr h ↦ elim h [ inl i ↦ omega (arith, less, i.0) | inr i ↦ omega (arith, less, i.0) ] ]
      ],
    )
    third path named false long = fourth (rw (path, named, long) refl) (λ t r f. elim (sorted t r f) [
      | inl g ↦ absurd (both_ways _ g.2 named)
      | inr g ↦ elim g [ inl h ↦ absurd (let e = lt-ltb name_limit _ h.2 in both_ways _ long e) | inr h ↦ h ]
    ]) _ refl

    second : is_some (value_of options.Label section) ≡ false → (named : Bool) → is_name (last_part (section_path section)) ≡ named → Answers ◌<◌ (WholeFails front section) (section_refusal front section)
    second path false named = rw (path, named) (
      1,
      bad_path_name path named,
      λ before other less f. elim (sorted before other f) [
        | inl g ↦ omega (arith, less, g.0)
        | inr g ↦ elim g [ inl h ↦ omega (arith, less, h.0) | inr h ↦ elim h [ inl i ↦ omega (arith, less, i.0) | inr i ↦ omega (arith, less, i.0) ] ]
      ],
    )
    second path true named = third path named _ refl

    first : (labelled : Bool) → is_some (value_of options.Label section) ≡ labelled → Answers ◌<◌ (WholeFails front section) (section_refusal front section)
    first true labelled = fourth (rw labelled refl) (λ t r f. elim (sorted t r f) [
      | inl g ↦ absurd (both_ways _ g.1 labelled)
      | inr g ↦ elim g [ inl h ↦ absurd (both_ways _ h.1 labelled) | inr h ↦ h ]
    ]) _ refl
    first false labelled = second labelled _ refl

sections-first : (front : List Setting) (sections : List (List Setting)) → sections_refusal front sections ≡ first_in section_refusal (λ same _. same) front sections
unfolding sections_refusal
sections-first front [] = refl
sections-first front (section ∷ sections) = by (section_refusal front section) (sections-first front sections)
  where
    by : (o : Option ConfRefusal) → sections_refusal front sections ≡ first_in section_refusal (λ same _. same) front sections
        → elim o [ Some refusal ↦ Some refusal | None ↦ sections_refusal front sections ]
        ≡ first_or o (first_in section_refusal (λ same _. same) front sections)
    by None rest = rest
    by (Some refusal) rest = refl

answers-sections : (front : List Setting) (sections : List (List Setting))
    → Answers IsItemBefore (λ at r. ItemFails WholeFails (λ same _. same) front sections at.0 at.1 r) (sections_refusal front sections)
answers-sections front sections = rw (sections-first front sections) (answers-items WholeFails section_refusal (λ same _. same) answers-section sections front)

-- ---- their names

-- the refusal of an answer
abbrev refusal_in : {A F : Type 0} → Result A F → Option F
refusal_in (Ok value) = None
refusal_in (Err refusal) = Some refusal

names-count : (names : List (List ℕ)) (section : List Setting) → value_of options.Alias section ≡ None → length (names ++ section_names section) ≡ length names + 1
unfolding section_names
names-count names section none = rw (none, length-append) refl

names-count-alias : (names : List (List ℕ)) (section : List Setting) (name : List ℕ) → value_of options.Alias section ≡ Some name → length (names ++ section_names section) ≡ length names + 2
unfolding section_names
names-count-alias names section name some = rw (some, length-append) refl

answers-names : (names : List (List ℕ)) (section : List Setting) → Answers ◌<◌ (NewNameFails names section) (names_reason names section)
unfolding names_reason many_refusal
answers-names names section = first _ refl
  where
    sorted : (t : ℕ) (r : ConfRefusal) → NewNameFails names section t r
        → ((t ≡ 1) × (has_name (section_label section) names ≡ true))
        ⊎ ((t ≡ 2) × ((name : List ℕ) × (value_of options.Alias section ≡ Some name) × (has_name name (names ++ section_label section ∷ []) ≡ true)))
        ⊎ ((t ≡ 3) × (names_limit < length (names ++ section_names section)))
    sorted t r (label a) = inl (refl, a)
    sorted t r (alias name a b) = inr (inl (refl, (name, a, b)))
    sorted t r (many a) = inr (inr (refl, a))

    -- the names aren't there yet
    IsNew : Type 0
    IsNew = (t : ℕ) (r : ConfRefusal) → NewNameFails names section t r → (t ≡ 3) × (names_limit < length (names ++ section_names section))

    fourth : (count : ℕ) → length (names ++ section_names section) ≡ count → IsNew → Answers ◌<◌ (NewNameFails names section) (many_refusal count section)
    fourth count is new = by _ refl
      where
        by : (full : Bool) → nat_lt names_limit count ≡ full → Answers ◌<◌ (NewNameFails names section) (many_refusal count section)
        by true full = rw full (3, many (let e = ltb-true names_limit count full in rw is e), λ before other less f. let g = new before other f in omega (arith, less, g.0))
        by false full = rw full (λ at r f. let g = new at r f in let e = lt-ltb names_limit count (rw is at g.1) in both_ways _ full e)

    third : has_name (section_label section) names ≡ false → (name : List ℕ) → value_of options.Alias section ≡ Some name → (again : Bool) → has_name name (names ++ section_label section ∷ []) ≡ again
        → Answers ◌<◌ (NewNameFails names section) (names_reason names section)
    third fresh name is true again = rw (fresh, is, again) (
      2,
      alias name is again,
      λ before other less f. elim (sorted before other f) [
        | inl g ↦ both_ways _ fresh g.1
        | inr g ↦ elim g [ inl h ↦ omega (arith, less, h.0) | inr h ↦ omega (arith, less, h.0) ]
      ],
    )
    third fresh name is false again = rw (fresh, is, again) (fourth _ (names-count-alias names section name is) (λ t r f. elim (sorted t r f) [
      | inl g ↦ absurd (both_ways _ fresh g.1)
      | inr g ↦ elim g [ inl h ↦ absurd (let same : h.1.0 ≡ name = some-same h.1.0 name (sym h.1.1 ∙ is) in let e = rw same at h.1.2 in both_ways _ again e) | inr h ↦ h ]
    ]))
      where
        some-same : (one other : List ℕ) → Some one ≡ Some other → one ≡ other
        some-same one other same = cc

    second : has_name (section_label section) names ≡ false → (other : Option (List ℕ)) → value_of options.Alias section ≡ other → Answers ◌<◌ (NewNameFails names section) (names_reason names section)
    second fresh (Some name) is = third fresh name is _ refl
    second fresh None is = rw (fresh, is) (fourth _ (names-count names section is) (λ t r f. elim (sorted t r f) [
      | inl g ↦ absurd (both_ways _ fresh g.1)
      | inr g ↦ elim g [ inl h ↦ absurd (let e = h.1.1 in cc) | inr h ↦ h ]
    ]))

    first : (taken : Bool) → has_name (section_label section) names ≡ taken → Answers ◌<◌ (NewNameFails names section) (names_reason names section)
    first true taken = rw taken (
      1,
      label taken,
      λ before other less f. elim (sorted before other f) [
        | inl g ↦ omega (arith, less, g.0)
        | inr g ↦ elim g [ inl h ↦ omega (arith, less, h.0) | inr h ↦ omega (arith, less, h.0) ]
      ],
    )
    first false taken = second taken _ refl

names-first : (names : List (List ℕ)) (sections : List (List Setting)) → refusal_in (names_from names sections) ≡ first_in names_reason names_after names sections
unfolding names_from
names-first names [] = refl
names-first names (section ∷ sections) = by (names_reason names section) (names-first (names ++ section_names section) sections)
  where
    by : (o : Option ConfRefusal) → refusal_in (names_from (names ++ section_names section) sections) ≡ first_in names_reason names_after (names ++ section_names section) sections
        → refusal_in (elim o [ Some refusal ↦ Err refusal | None ↦ names_from (names ++ section_names section) sections ])
        ≡ first_or o (first_in names_reason names_after (names ++ section_names section) sections)
    by None rest = rest
    by (Some refusal) rest = refl

-- ---- a test's refusal is one

-- what is wrong with an option, by the test's number
option_reason : List Setting → Setting → ℕ → ConfReason
option_reason own setting t =
    if t == 4 then reasons.Misplaced else
    if t == 5 then at_place (same_option setting.option options.Disk) (is_of_disk setting.option) (has_option setting.option own) else
    if t == 6 then reasons.NoValue else
    if t == 7 then reasons.BadValue else
    reasons.NameTooLong
  where
    excluding : Option Opt → ConfReason
    excluding None = reasons.Repeated
    excluding (Some beside) = reasons.Excludes beside

    at_place : Bool → Bool → Bool → ConfReason
    at_place false false false = excluding (excluded_in own setting.option)
    at_place _ _ _ = reasons.Repeated

place-reason : (own : List Setting) (setting : Setting) (t : ℕ) (r : ConfReason) → PlaceFails own setting t r → option_reason own setting t ≡ r
unfolding option_reason
place-reason own setting t r (misplaced a b) = refl
place-reason own setting t r (misplaced_disk a b) = refl
place-reason own setting t r (misplaced_detail a b) = refl
place-reason own setting t r (repeated a b) = rw (a.1, a.2, b) refl
place-reason own setting t r (repeated_disk a b) = rw a.1 refl
place-reason own setting t r (repeated_detail a b) = rw (a.1, a.2) refl
place-reason own setting t r (excluded beside a fresh b) = rw (a.1, a.2, fresh, b) refl

value-reason : (own : List Setting) (disk : ℕ) (setting : Setting) (t : ℕ) (r : ConfReason) → ValueFails disk setting t r → option_reason own setting t ≡ r
unfolding option_reason
value-reason own disk setting t r (no_value a b) = refl
value-reason own disk setting t r (unwanted a b) = refl
value-reason own disk setting t r (bad_value text a b) = refl
value-reason own disk setting t r (long_name text a b c) = refl

one-option : (own : List Setting) (setting : Setting) (t : ℕ) (r : ConfReason) → OptionFails own setting t r → option_reason own setting t ≡ r
one-option own setting t r (inl fails) = place-reason own setting t r fails
one-option own setting t r (inr fails) = value-reason own (disk_behind own setting) setting t r fails

one-setting : (own : List Setting) (setting : Setting) → IsOne (SettingFails own setting)
unfolding refused_by
one-setting own setting at r s f g =
    let same : f.0 ≡ g.0 = sym (one-option own setting at f.0 f.1) ∙ one-option own setting at g.0 g.1 in
    sym f.2 ∙ ap (refused_by setting) same ∙ g.2

whole_refusal : List Setting → List Setting → ℕ → ConfRefusal
whole_refusal front section t =
    if t == 1 then record { reason = reasons.BadValue; option = opener_of section; line = opening_line section } else
    if t == 2 then record { reason = reasons.NameTooLong; option = opener_of section; line = opening_line section } else
    if t == 3 then record { reason = reasons.Excludes options.Lock; option = options.Fallback; line = excludes_line section } else
    record { reason = reasons.Needs options.Password; option = options.Restricted; line = opening_line section }

one-whole : (front section : List Setting) (t : ℕ) (r : ConfRefusal) → WholeFails front section t r → whole_refusal front section t ≡ r
unfolding whole_refusal
one-whole front section t r (bad_path_name a b) = refl
one-whole front section t r (long_path_name a b) = refl
one-whole front section t r (locked a) = refl
one-whole front section t r (restricted a) = refl

name_refusal : List Setting → ℕ → ConfRefusal
name_refusal section t =
    if t == 1 then record { reason = reasons.RepeatedName; option = options.Label; line = opening_line section } else
    if t == 2 then record { reason = reasons.RepeatedName; option = options.Alias; line = opening_line section } else
    record { reason = reasons.TooManyNames; option = opener_of section; line = opening_line section }

one-name : (names : List (List ℕ)) (section : List Setting) (t : ℕ) (r : ConfRefusal) → NewNameFails names section t r → name_refusal section t ≡ r
unfolding name_refusal
one-name names section t r (label a) = refl
one-name names section t r (alias name a b) = refl
one-name names section t r (many a) = refl

-- ---- the last stages

is_nil : {A : Type 0} → List A → Bool
is_nil [] = true
is_nil (x ∷ xs) = false

no_images : ConfRefusal
no_images = record { reason = reasons.NoImages; option = options.Image; line = 0 }

no_default : List Setting → ConfRefusal
no_default front = record { reason = reasons.NoDefault; option = options.Default; line = line_of options.Default front }

-- whether the default is no name
is_unknown : List Setting → List (List ℕ) → Bool
is_unknown front names = by (value_of options.Default front)
  where
    by : Option (List ℕ) → Bool
    by None = false
    by (Some wanted) = not (has_name wanted names)

is_unknown-wanted : (front : List Setting) (names : List (List ℕ)) → is_unknown front names ≡ true
    → (wanted : List ℕ) × (value_of options.Default front ≡ Some wanted) × (has_name wanted names ≡ false)
unfolding is_unknown
is_unknown-wanted front names is = by (value_of options.Default front) refl
  where
    by : (o : Option (List ℕ)) → value_of options.Default front ≡ o → (wanted : List ℕ) × (value_of options.Default front ≡ Some wanted) × (has_name wanted names ≡ false)
    by None none = absurd (let e = rw none at is in cc)
    by (Some wanted) some = (wanted, some, not-true _ (rw some at is))

wanted-is_unknown : (front : List Setting) (names : List (List ℕ)) (wanted : List ℕ) → value_of options.Default front ≡ Some wanted → has_name wanted names ≡ false → is_unknown front names ≡ true
unfolding is_unknown
wanted-is_unknown front names wanted is new = rw (is, new) refl

default-known : (front : List Setting) (names : List (List ℕ)) → default_refusal front names
    ≡ first_or (only (is_nil names) no_images) (only (is_unknown front names) (no_default front))
unfolding default_refusal is_nil is_unknown no_images no_default
default-known front [] = refl
default-known front (name ∷ names) = by (value_of options.Default front) refl
  where
    second : (wanted : List ℕ) → value_of options.Default front ≡ Some wanted → (known : Bool) → has_name wanted (name ∷ names) ≡ known
        → default_refusal front (name ∷ names) ≡ only (is_unknown front (name ∷ names)) (no_default front)
    second wanted is true known = rw (is, known) refl
    second wanted is false known = rw (is, known) refl

    by : (o : Option (List ℕ)) → value_of options.Default front ≡ o
        → default_refusal front (name ∷ names) ≡ only (is_unknown front (name ∷ names)) (no_default front)
    by None is = rw is refl
    by (Some wanted) is = second wanted is _ refl

is_nil-names : (sections : List (List Setting)) → is_nil (flat_map section_names sections) ≡ is_nil sections
unfolding is_nil section_names
is_nil-names [] = refl
is_nil-names (section ∷ sections) = refl

-- ---- the whole

module _ (text : List ℕ) where
  abbrev settings : List Setting
  settings = (text_settings text).settings

  abbrev parts : ConfParts
  parts = parts_of settings

  abbrev all_names : List (List ℕ)
  all_names = flat_map section_names parts.sections

  -- what fails, by stages
  abbrev IsLong : Place → ConfRefusal → Type 0
  IsLong at r = (nat_lt conf_limit (length text) ≡ true) × (at ≡ place 0 0 0) × (too_long (length text) ≡ r)

  abbrev IsSetting : Place → ConfRefusal → Type 0
  IsSetting at r = (at.stage ≡ 1) × ItemFails SettingFails part_after [] settings at.item at.test r

  abbrev IsUnread : Place → ConfRefusal → Type 0
  IsUnread at r = (at ≡ place 1 (length settings) (reading_test r.reason)) × ((text_settings text).refusal ≡ Some r)

  abbrev IsSection : Place → ConfRefusal → Type 0
  IsSection at r = (at.stage ≡ 2) × ItemFails WholeFails (λ same _. same) parts.front parts.sections at.item at.test r

  abbrev IsName : Place → ConfRefusal → Type 0
  IsName at r = (at.stage ≡ 3) × ItemFails NewNameFails names_after [] parts.sections at.item at.test r

  abbrev IsEmpty : Place → ConfRefusal → Type 0
  IsEmpty at r = (is_nil all_names ≡ true) × (at ≡ place 4 0 0) × (no_images ≡ r)

  abbrev IsUnknown : Place → ConfRefusal → Type 0
  IsUnknown at r = (is_unknown parts.front all_names ≡ true) × (at ≡ place 5 0 0) × (no_default parts.front ≡ r)

  -- what fails of the whole, once all is read
  abbrev IsLater : Place → ConfRefusal → Type 0
  IsLater at r = ((text_settings text).refusal ≡ None) × (IsSection at r ⊎ (IsName at r ⊎ (IsEmpty at r ⊎ IsUnknown at r)))

  abbrev IsAny : Place → ConfRefusal → Type 0
  IsAny at r = IsLong at r ⊎ (IsSetting at r ⊎ (IsUnread at r ⊎ IsLater at r))

  -- the stages' answers in turn
  abbrev last_refusal : Option ConfRefusal
  last_refusal = first_or (only (is_nil all_names) no_images) (only (is_unknown parts.front all_names) (no_default parts.front))

  abbrev whole_refusals : Option ConfRefusal
  whole_refusals = first_or (sections_refusal parts.front parts.sections) (first_or (refusal_in (names_from [] parts.sections)) last_refusal)

  abbrev any_refusal : Option ConfRefusal
  any_refusal =
      first_or (only (nat_lt conf_limit (length text)) (too_long (length text)))
      (first_or (settings_refusal [] settings) (first_or (text_settings text).refusal (unless (text_settings text).refusal whole_refusals)))

  unread-decides : Decides IsUnread (text_settings text).refusal
  unread-decides = by (text_settings text).refusal
    where
      by : (o : Option ConfRefusal) → Decides (λ at r. (at ≡ place 1 (length settings) (reading_test r.reason)) × (o ≡ Some r)) o
      by None = record { answers = λ at r f. absurd (let e = f.1 in cc); one = λ at r s f g. absurd (let e = f.1 in cc) }
      by (Some refusal) = record {
        answers = (
          place 1 (length settings) (reading_test refusal.reason),
          (refl, refl),
          λ before other less f.
              let same : other ≡ refusal = let e = f.1 in cc in
              let e = subst (λ q. IsBefore q (place 1 (length settings) (reading_test refusal.reason))) (f.0 ∙ ap (λ r. place 1 (length settings) (reading_test r.reason)) same) less in
              before-apart _ _ e e,
        );
        one = λ at r s f g. let e = f.1 in let h = g.1 in cc;
      }

  names-answers : Answers IsItemBefore (λ at r. ItemFails NewNameFails names_after [] parts.sections at.0 at.1 r) (refusal_in (names_from [] parts.sections))
  names-answers = rw (names-first [] parts.sections) (answers-items NewNameFails names_reason names_after answers-names parts.sections [])

  stage-of : (at p : Place) → at ≡ p → at.stage ≡ p.stage
  stage-of at p same = ap (λ q. q.stage) same

  last-stages : (at : Place) (r : ConfRefusal) → IsEmpty at r ⊎ IsUnknown at r → 4 ≤ at.stage
  last-stages at r (inl f) = let e = stage-of at (place 4 0 0) f.1 in omega (arith, e)
  last-stages at r (inr f) = let e = stage-of at (place 5 0 0) f.1 in omega (arith, e)

  name-stages : (at : Place) (r : ConfRefusal) → IsName at r ⊎ (IsEmpty at r ⊎ IsUnknown at r) → 3 ≤ at.stage
  name-stages at r (inl f) = omega (arith, f.0)
  name-stages at r (inr f) = let e = last-stages at r f in omega (arith, e)

  section-stages : (at : Place) (r : ConfRefusal) → IsSection at r ⊎ (IsName at r ⊎ (IsEmpty at r ⊎ IsUnknown at r)) → 2 ≤ at.stage
  section-stages at r (inl f) = omega (arith, f.0)
  section-stages at r (inr f) = let e = name-stages at r f in omega (arith, e)

  long-before : (a b : Place) (r s : ConfRefusal) → IsLong a r → IsSetting b s ⊎ (IsUnread b s ⊎ IsLater b s) → IsBefore a b
  long-before a b r s f (inl g) = let e = stage-of a (place 0 0 0) f.1 in inl (omega (arith, e, g.0))
  long-before a b r s f (inr (inl g)) = let e = stage-of a (place 0 0 0) f.1 in let h = stage-of b (place 1 (length settings) (reading_test s.reason)) g.0 in inl (omega (arith, e, h))
  long-before a b r s f (inr (inr g)) = let e = stage-of a (place 0 0 0) f.1 in let h = section-stages b s g.1 in inl (omega (arith, e, h))

  setting-before : (a b : Place) (r s : ConfRefusal) → IsSetting a r → IsUnread b s ⊎ IsLater b s → IsBefore a b
  setting-before a b r s f (inl g) =
      let e = stage-of b (place 1 (length settings) (reading_test s.reason)) g.0 in
      let i : b.item ≡ length settings = ap (λ q. q.item) g.0 in
      let w = within-items SettingFails part_after settings [] a.item a.test r f.1 in
      inr (omega (arith, f.0, e), inl (omega (arith, i, w)))
  setting-before a b r s f (inr g) = let e = section-stages b s g.1 in inl (omega (arith, f.0, e))

  all-decides : Decides IsAny any_refusal
  all-decides =
      decides-join IsLong _ _ _ long-before (decides-one (nat_lt conf_limit (length text)) (place 0 0 0) (too_long (length text)))
      (decides-join IsSetting _ _ _ setting-before (decides-stage 1 SettingFails part_after settings [] _ one-setting (answers-settings settings))
      (decides-join IsUnread _ _ _ (λ a b r s f g. let e = stage-of a (place 1 (length settings) (reading_test r.reason)) f.0 in let h = section-stages b s g.1 in inl (omega (arith, e, h))) unread-decides
      (decides-unless _ _ _ (decides-join IsSection _ _ _ (λ a b r s f g. let h = name-stages b s g in inl (omega (arith, f.0, h)))
      (decides-stage 2 WholeFails (λ same _. same) parts.sections parts.front _ (λ front section at r s f g. sym (one-whole front section at r f) ∙ one-whole front section at s g) (answers-sections parts.front parts.sections))
      (decides-join IsName _ _ _ (λ a b r s f g. let h = last-stages b s g in inl (omega (arith, f.0, h)))
      (decides-stage 3 NewNameFails names_after parts.sections [] _ (λ names section at r s f g. sym (one-name names section at r f) ∙ one-name names section at s g) names-answers)
      (decides-join IsEmpty IsUnknown _ _ (λ a b r s f g. let e = stage-of a (place 4 0 0) f.1 in let h = stage-of b (place 5 0 0) g.1 in inl (omega (arith, e, h)))
      (decides-one (is_nil all_names) (place 4 0 0) no_images) (decides-one (is_unknown parts.front all_names) (place 5 0 0) (no_default parts.front))))))))

  -- ---- the answer is the stages' in turn

  whole-in-turn : refusal_in (whole_of parts) ≡ whole_refusals
  unfolding whole_of
  whole-in-turn = first (sections_refusal parts.front parts.sections) refl
    where
      third : (o : Option ConfRefusal) → refusal_in (no_fault o >>= λ _. Ok (config_of parts)) ≡ o
      third None = refl
      third (Some r) = refl

      second : (names : Result (List (List ℕ)) ConfRefusal) → names_from [] parts.sections ≡ names → sections_refusal parts.front parts.sections ≡ None → refusal_in (whole_of parts) ≡ whole_refusals
      second (Err r) named none = rw (none, named) refl
      second (Ok names) named none =
          let same : names ≡ all_names = (names_from-names [] parts.sections names named (record { apart = λ i j d less within. absurd (omega (arith, within)); few = omega arith })).1 in
          rw (none, named) (third (default_refusal parts.front names) ∙ ap (default_refusal parts.front) same ∙ default-known parts.front all_names)

      first : (o : Option ConfRefusal) → sections_refusal parts.front parts.sections ≡ o → refusal_in (whole_of parts) ≡ whole_refusals
      first None none = second _ refl none
      first (Some r) some = rw some refl

  answer-in-turn : refusal_in (conf_at text) ≡ any_refusal
  unfolding conf_at
  answer-in-turn = first (nat_lt conf_limit (length text)) refl
    where
      third : (o : Option ConfRefusal) → (text_settings text).refusal ≡ o → nat_lt conf_limit (length text) ≡ false → nat_le (length text) conf_limit ≡ true → settings_refusal [] settings ≡ None → refusal_in (conf_at text) ≡ any_refusal
      third None none short small fine = rw (short, small, fine, none) whole-in-turn
      third (Some r) some short small fine = rw (short, small, fine, some) refl

      second : (o : Option ConfRefusal) → settings_refusal [] settings ≡ o → nat_lt conf_limit (length text) ≡ false → nat_le (length text) conf_limit ≡ true → refusal_in (conf_at text) ≡ any_refusal
      second None fine short small = third _ refl short small fine
      second (Some r) some short small = rw (short, small, some) refl

      first : (long : Bool) → nat_lt conf_limit (length text) ≡ long → refusal_in (conf_at text) ≡ any_refusal
      first true long = let l = ltb-true conf_limit (length text) long in let big : nat_le (length text) conf_limit ≡ false = grind (arith, nat_tests) in rw (long, big) refl
      first false short = second _ refl short (le-leb (length text) conf_limit (ltb-false conf_limit (length text) short))

  -- ---- and what fails is what fails of them

  nil-sections : (sections : List (List Setting)) → is_nil sections ≡ true → sections ≡ []
  unfolding is_nil
  nil-sections [] is = refl
  nil-sections (section ∷ sections) is = absurd (cc)

  to-read : {own : List Setting} {r : ConfRefusal} → (settings ≡ own) × ((text_settings text).refusal ≡ Some r)
      → IsUnread (place 1 (length own) (reading_test r.reason)) r
  to-read {own} {r} (same, is) = (ap (λ x. place 1 (length x) (reading_test r.reason)) (sym same), is)

  to-any : (at : Place) (r : ConfRefusal) → Fails text at r → IsAny at r
  unfolding is_nil no_images no_default text_refusal
  to-any at r (is_long a) = inl (lt-ltb conf_limit (length text) a, refl, refl)
  to-any at r (faulty own begun option left fault a b) = inr (inr (inl (to-read (refused-read text left r a (meets-cut text begun left option fault b)))))
  to-any at r (unknown own begun token behind a b) = inr (inr (inl (to-read (refused-read text _ r a (unknown-cut text begun token behind b)))))
  to-any at r (left_out own begun word behind a b c) = inr (inr (inl (to-read (refused-read text _ r a (left_out-cut text begun word behind b c)))))
  to-any at r (of_option read begun left item test refusal a b) =
      let more = read-before text a in
      inr (inl (refl, subst (λ s. ItemFails SettingFails part_after [] s item test r) (sym more.1) (items-before SettingFails part_after read more.0 [] item test r b)))
  to-any at r (of_section all item test refusal whole a) =
      let e = whole-read text whole in
      inr (inr (inr (e.1, inl (refl, subst (λ s. ItemFails WholeFails (λ same _. same) (parts_of s).front (parts_of s).sections item test r) (sym e.0) a))))
  to-any at r (of_names all item test refusal whole a) =
      let e = whole-read text whole in
      inr (inr (inr (e.1, inr (inl (refl, subst (λ s. ItemFails NewNameFails names_after [] (parts_of s).sections item test r) (sym e.0) a)))))
  to-any at r (no_section all whole a) =
      let e = whole-read text whole in
      inr (inr (inr (e.1, inr (inr (inl (is_nil-names parts.sections ∙ (rw (e.0, a) refl), refl, refl))))))
  to-any at r (of_default all wanted whole a b) =
      let e = whole-read text whole in
      let known = subst (λ s. is_unknown (parts_of s).front (flat_map section_names (parts_of s).sections) ≡ true) (sym e.0)
      (wanted-is_unknown (parts_of all).front (flat_map section_names (parts_of all).sections) wanted a b) in
      inr (inr (inr (e.1, inr (inr (inr (known, refl, ap (λ s. no_default (parts_of s).front) e.0))))))

  from-any : (at : Place) (r : ConfRefusal) → IsAny at r → Fails text at r
  unfolding no_images no_default
  from-any at r (inl (a, p, e)) = subst (λ q. Fails text q r) (sym p) (subst (λ s. Fails text (place 0 0 0) s) e (is_long (ltb-true conf_limit (length text) a)))
  from-any at r (inr (inl (k, f))) =
      let there = all-reached text in
      subst (λ q. Fails text q r) (ap (λ s. place s at.item at.test) (sym k)) (of_option settings there.0 there.1 at.item at.test r there.2 f)
  from-any at r (inr (inr (inl (p, e)))) = subst (λ q. Fails text q r) (sym p) (read-fails text r e)
  from-any at r (inr (inr (inr (none, inl (k, f))))) =
      subst (λ q. Fails text q r) (ap (λ s. place s at.item at.test) (sym k)) (of_section settings at.item at.test r (all-read text none) f)
  from-any at r (inr (inr (inr (none, inr (inl (k, f)))))) =
      subst (λ q. Fails text q r) (ap (λ s. place s at.item at.test) (sym k)) (of_names settings at.item at.test r (all-read text none) f)
  from-any at r (inr (inr (inr (none, inr (inr (inl (a, p, e))))))) =
      subst (λ q. Fails text q r) (sym p)
      (subst (λ s. Fails text (place 4 0 0) s) e (no_section settings (all-read text none) (nil-sections parts.sections (sym (is_nil-names parts.sections) ∙ a))))
  from-any at r (inr (inr (inr (none, inr (inr (inr (a, p, e))))))) =
      let w = is_unknown-wanted parts.front all_names a in
      subst (λ q. Fails text q r) (sym p) (subst (λ s. Fails text (place 5 0 0) s) e (of_default settings w.0 (all-read text none) w.1 w.2))

  answers-all : Answers IsBefore (Fails text) (refusal_in (conf_at text))
  answers-all = rw answer-in-turn (answers-same IsBefore IsAny (Fails text) any_refusal from-any to-any all-decides.answers)

  one-refusal : IsOne (Fails text)
  one-refusal at r s f g = all-decides.one at r s (to-any at r f) (to-any at s g)

pub order_law : OrderLaw
order_law = record { refused = λ text r. (to text r, from text r); accepted = λ text. (yes text, no' text) }
  where
    to : (text : List ℕ) (r : ConfRefusal) → conf_at text ≡ Err r → FailsFirst text r
    to text r is =
        let found = subst (λ o. Answers IsBefore (Fails text) (refusal_in o)) is (answers-all text) in
        record { at = found.0; fails = found.1; first = found.2 }

    from : (text : List ℕ) (r : ConfRefusal) → FailsFirst text r → conf_at text ≡ Err r
    from text r failed = by (conf_at text) refl (answers-all text)
      where
        by : (o : Result Config ConfRefusal) → conf_at text ≡ o → Answers IsBefore (Fails text) (refusal_in o) → conf_at text ≡ Err r
        by (Ok config) is none = absurd (none failed.at r failed.fails)
        by (Err other) is (at, fails, first) = elim (three-ways at failed.at) [
          | inl less ↦ absurd (failed.first at other less fails)
          | inr more ↦ elim more [
            | inl greater ↦ absurd (first failed.at r greater failed.fails)
            | inr same ↦ is ∙ ap Err (one-refusal text failed.at other r (subst (λ q. Fails text q other) same fails) failed.fails)
          ]
        ]

    yes : (text : List ℕ) → IsOk (conf_at text) → (at : Place) (r : ConfRefusal) → Fails text at r → ⊥
    yes text ok = by (conf_at text) ok (answers-all text)
      where
        by : (o : Result Config ConfRefusal) → IsOk o → Answers IsBefore (Fails text) (refusal_in o) → (at : Place) (r : ConfRefusal) → Fails text at r → ⊥
        by (Ok config) ok none = none
        by (Err other) ok found = λ at r f. absurd (cc)

    no' : (text : List ℕ) → ((at : Place) (r : ConfRefusal) → Fails text at r → ⊥) → IsOk (conf_at text)
    no' text none = by (conf_at text) (answers-all text)
      where
        by : (o : Result Config ConfRefusal) → Answers IsBefore (Fails text) (refusal_in o) → IsOk o
        by (Ok config) found = refl
        by (Err other) (at, fails, first) = absurd (none at other fails)
