-- What a part says of an option that is in it.
use Rattle.std.proofs.Common.{◌≡◌, ℕ, ◌≤◌, Bool, true, false, ◌||◌, List, [], ◌∷◌, ◌++◌, length, Some, refl, cond}
use Rattle.std.specs.Prelude.{find}
use Rattle.std.specs.List.{list_any}
use Rattle.std.specs.Option.{option_and_then}
use Rattle.std.proofs.lemmas.Bool.{or_right, false≢true}
use Rattle.std.proofs.lemmas.List.Folds.{list_any-append}
use Rattle.lilo_model.specs.ConfOptions.{Opt, Part, stands_in, same_option, excluded_by}
use Rattle.lilo_model.specs.ConfSettings.{Setting}
use Rattle.lilo_model.specs.ConfJudge.{given_text, setting_of, has_option, part_kind, excluded_in}
use Rattle.lilo_model.specs.Conf.{value_of}
use Rattle.conf_laws.proofs.Options.{same_option-same}
use Rattle.conf_laws.proofs.Settings.{Stands, AllStand, is_plain, part_kind-push, FitsValue, value_reason-none, plain-fits}

-- a value that an option has in a part
pub record IsGiven (size : ℕ) (kind : Part) (one : Opt) (text : List ℕ) : Type 0 where
  pub placed : stands_in kind one ≡ true
  pub fits : FitsValue one 0 text
  pub small : length text ≤ size

here-given : (size : ℕ) (own : List Setting) (setting : Setting) (text : List ℕ) → is_plain setting.option ≡ true → Stands size own setting
    → given_text setting.given ≡ Some text → IsGiven size (part_kind own) setting.option text
here-given size own setting text plain stands is =
    let fits = plain-fits own setting plain stands.fine in
    record { placed = fits.placed; fits = value_reason-none 0 setting text fits.valued is; small = stands.small text is }

-- the value that a part gives for an option fits it
pub value_of-given : (size : ℕ) (one : Opt) (own settings : List Setting) (text : List ℕ) → is_plain one ≡ true → AllStand size own settings
    → value_of one settings ≡ Some text → IsGiven size (part_kind own) one text
unfolding value_of setting_of
value_of-given size one own [] text plain stand is = absurd (cc)
value_of-given size one own (setting ∷ settings) text plain stand is =
    by _ refl is (λ rest. rw (part_kind-push own setting stand.0.inside) at (value_of-given size one (own ++ setting ∷ []) settings text plain stand.1 rest))
  where
    by : (here : Bool) → same_option setting.option one ≡ here
        → option_and_then (λ s. given_text s.given) (cond here (Some setting) (find (λ s. same_option s.option one) settings)) ≡ Some text
        → (value_of one settings ≡ Some text → IsGiven size (part_kind own) one text)
        → IsGiven size (part_kind own) one text
    by true here e rest =
        let same = same_option-same setting.option one here in
        rw same at (here-given size own setting text (rw same plain) stand.0 e)
    by false here e rest = rest e

-- an option that is in a part is allowed there
pub has_option-placed : (size : ℕ) (one : Opt) (own settings : List Setting) → is_plain one ≡ true → AllStand size own settings
    → has_option one settings ≡ true → stands_in (part_kind own) one ≡ true
unfolding has_option
has_option-placed size one own [] plain stand is = absurd (cc)
has_option-placed size one own (setting ∷ settings) plain stand is =
    by _ refl is (λ rest. rw (part_kind-push own setting stand.0.inside) at (has_option-placed size one (own ++ setting ∷ []) settings plain stand.1 rest))
  where
    by : (here : Bool) → same_option setting.option one ≡ here → (here || has_option one settings) ≡ true
        → (has_option one settings ≡ true → stands_in (part_kind own) one ≡ true)
        → stands_in (part_kind own) one ≡ true
    by true here e rest =
        let same = same_option-same setting.option one here in
        rw same at (plain-fits own setting (rw same plain) stand.0.fine).placed
    by false here e rest = rest e

-- what has a value is there
pub value_of-has : (one : Opt) (settings : List Setting) (text : List ℕ) → value_of one settings ≡ Some text → has_option one settings ≡ true
unfolding value_of setting_of has_option
value_of-has one [] text is = absurd (cc)
value_of-has one (setting ∷ settings) text is = by _ refl is (λ rest. value_of-has one settings text rest)
  where
    by : (here : Bool) → same_option setting.option one ≡ here
        → option_and_then (λ s. given_text s.given) (cond here (Some setting) (find (λ s. same_option s.option one) settings)) ≡ Some text
        → (value_of one settings ≡ Some text → has_option one settings ≡ true)
        → (same_option setting.option one || has_option one settings) ≡ true
    by true here e rest = rw here refl
    by false here e rest = rw here (rest e)

-- ---- options that exclude one another

has_option-push : (one : Opt) (own : List Setting) (setting : Setting) → has_option one own ≡ true → has_option one (own ++ setting ∷ []) ≡ true
unfolding has_option
has_option-push one own setting is = rw (list_any-append (λ s. same_option s.option one) own (setting ∷ []), is) refl

has_option-last : (one : Opt) (own : List Setting) (setting : Setting) → same_option setting.option one ≡ true → has_option one (own ++ setting ∷ []) ≡ true
unfolding has_option
has_option-last one own setting is = rw (list_any-append (λ s. same_option s.option one) own (setting ∷ []), is) (or_right (list_any (λ s. same_option s.option one) own) true refl)

excluded_in-some : (own : List Setting) (one two : Opt) → excluded_by one ≡ Some two → has_option two own ≡ true → excluded_in own one ≡ Some two
unfolding excluded_in
excluded_in-some own one two excludes is = rw (excludes, is) refl

-- after one of them the other doesn't come
excluded-behind : (size : ℕ) (one two : Opt) (own settings : List Setting) → is_plain one ≡ true → excluded_by one ≡ Some two
    → has_option two own ≡ true → AllStand size own settings → has_option one settings ≡ false
unfolding has_option
excluded-behind size one two own [] plain excludes before stand = refl
excluded-behind size one two own (setting ∷ settings) plain excludes before stand =
    by _ refl (excluded-behind size one two (own ++ setting ∷ []) settings plain excludes (has_option-push two own setting before) stand.1)
  where
    by : (here : Bool) → same_option setting.option one ≡ here → has_option one settings ≡ false → (same_option setting.option one || has_option one settings) ≡ false
    by false here rest = rw here rest
    by true here rest =
        let same = same_option-same setting.option one here in
        let alone = (plain-fits own setting (rw same plain) stand.0.fine).alone in
        let some = excluded_in-some own one two excludes before in
        let none = rw same at alone in
        absurd (cc)

-- they aren't both in a part
pub excluded-apart : (size : ℕ) (one two : Opt) (own settings : List Setting) → is_plain one ≡ true → is_plain two ≡ true → same_option one two ≡ false
    → excluded_by one ≡ Some two → excluded_by two ≡ Some one → AllStand size own settings
    → has_option one settings ≡ true → has_option two settings ≡ true → ⊥
unfolding has_option
excluded-apart size one two own [] plain plain' apart ex ex' stand has has' = false≢true has
excluded-apart size one two own (setting ∷ settings) plain plain' apart ex ex' stand has has' =
    by _ _ refl refl has has' (excluded-apart size one two (own ++ setting ∷ []) settings plain plain' apart ex ex' stand.1)
  where
    by : (here here' : Bool) → same_option setting.option one ≡ here → same_option setting.option two ≡ here'
        → (here || has_option one settings) ≡ true → (here' || has_option two settings) ≡ true
        → (has_option one settings ≡ true → has_option two settings ≡ true → ⊥) → ⊥
    by true true is is' e e' rest =
        let same = same_option-same setting.option one is in
        let same' = rw same at is' in
        absurd (cc)
    by true false is is' e e' rest =
        let last = has_option-last one own setting is in
        let none = excluded-behind size two one (own ++ setting ∷ []) settings plain' ex' last stand.1 in
        absurd (cc)
    by false true is is' e e' rest =
        let last = has_option-last two own setting is' in
        let none = excluded-behind size one two (own ++ setting ∷ []) settings plain ex last stand.1 in
        absurd (cc)
    by false false is is' e e' rest = rest e e'
