-- Settings that are unrefused in a part, and the values that they give.
use Rattle.std.proofs.Common.{◌≡◌, ℕ, ◌≤◌, Bool, true, false, not, ◌||◌, ◌&&◌, List, [], ◌∷◌, ◌++◌, length, Some, None, Option, refl}
use Rattle.std.specs.Prelude.{⊤, nat_lt}
use Rattle.std.proofs.lemmas.Bool.{ltb-false, or_parts, not-true}
use Rattle.lilo_model.specs.ConfOptions as options
use Rattle.lilo_model.specs.ConfOptions.{Opt, Part, GlobalPart, Takes, takes_of, opens, stands_in, is_of_disk, is_of_name, same_option, excluded_by}
use Rattle.lilo_model.specs.ConfValues.{is_value, name_limit}
use Rattle.lilo_model.specs.ConfSettings.{Given, Bare, Sign, Value, Setting}
use Rattle.lilo_model.specs.ConfJudge.{given_text, has_option, part_kind, excluded_in, text_reason, given_reason, value_reason, part_reason, setting_reason}
use Rattle.conf_laws.proofs.Options.{opened_part-global}

-- a setting that isn't refused after others of its part, and opens none; its value has at most so many bytes
pub record Stands (size : ℕ) (own : List Setting) (setting : Setting) : Type 0 where
  pub inside : opens setting.option ≡ false
  pub fine : setting_reason own setting ≡ None
  pub small : (text : List ℕ) → given_text setting.given ≡ Some text → length text ≤ size

-- each of settings does, after others
abbrev pub AllStand : ℕ → List Setting → List Setting → Type 0
AllStand size own [] = ⊤
AllStand size own (setting ∷ settings) = Stands size own setting × AllStand size (own ++ setting ∷ []) settings

-- whether an option may be anywhere in its part
abbrev pub is_plain : Opt → Bool
is_plain option = not (opens option || (same_option option options.Disk || is_of_disk option))

-- a part keeps its kind
pub part_kind-push : (own : List Setting) (setting : Setting) → opens setting.option ≡ false → part_kind (own ++ setting ∷ []) ≡ part_kind own
unfolding part_kind
part_kind-push [] setting inside = opened_part-global setting.option inside
part_kind-push (first ∷ own) setting inside = refl

-- a value fits an option, the disk of its group being this one
pub record FitsValue (option : Opt) (disk : ℕ) (text : List ℕ) : Type 0 where
  pub value : is_value (takes_of option) disk text ≡ true
  pub name : is_of_name option ≡ true → length text ≤ name_limit

text_reason-none : (option : Opt) (disk : ℕ) (text : List ℕ) → text_reason option disk text ≡ None → FitsValue option disk text
unfolding text_reason
text_reason-none option disk text none = first (is_value (takes_of option) disk text) refl
  where
    second : (long : Bool) → (is_of_name option && nat_lt name_limit (length text)) ≡ long → is_value (takes_of option) disk text ≡ true → FitsValue option disk text
    second true e is = let f = rw (is, e) at none in absurd (cc)
    second false e is = record {
      value = is;
      name = λ named. let f = rw named at e in ltb-false name_limit (length text) f;
    }

    first : (good : Bool) → is_value (takes_of option) disk text ≡ good → FitsValue option disk text
    first true is = second _ refl is
    first false is = let e = rw is at none in absurd (cc)

pub value_reason-none : (disk : ℕ) (setting : Setting) (text : List ℕ) → value_reason disk setting ≡ None → given_text setting.given ≡ Some text → FitsValue setting.option disk text
unfolding value_reason given_reason given_text
value_reason-none disk setting text none is = by setting.given none is
  where
    by : (given : Given) → given_reason setting.option disk given ≡ None → given_text given ≡ Some text → FitsValue setting.option disk text
    by Bare e f = absurd (cc)
    by Sign e f = absurd (cc)
    by (Value other) e f = let same : other ≡ text = cc in rw same at (text_reason-none setting.option disk other e)

-- what holds of an option that isn't refused where it is in its part
pub record FitsPart (own : List Setting) (setting : Setting) : Type 0 where
  pub placed : stands_in (part_kind own) setting.option ≡ true
  pub fresh : has_option setting.option own ≡ false
  pub alone : excluded_in own setting.option ≡ None
  pub valued : value_reason 0 setting ≡ None

part_reason-none : (own : List Setting) (setting : Setting) → part_reason own setting ≡ None → FitsPart own setting
unfolding part_reason
part_reason-none own setting none = first _ refl
  where
    third : (beside : Option Opt) → excluded_in own setting.option ≡ beside → stands_in (part_kind own) setting.option ≡ true → has_option setting.option own ≡ false → FitsPart own setting
    third (Some one) e placed fresh = let f = rw (placed, fresh, e) at none in absurd (cc)
    third None e placed fresh = record { placed = placed; fresh = fresh; alone = e; valued = rw (placed, fresh, e) at none }

    second : (has : Bool) → has_option setting.option own ≡ has → stands_in (part_kind own) setting.option ≡ true → FitsPart own setting
    second true has placed = let f = rw (placed, has) at none in absurd (cc)
    second false has placed = third _ refl placed has

    first : (placed : Bool) → stands_in (part_kind own) setting.option ≡ placed → FitsPart own setting
    first true placed = second _ refl placed
    first false placed = let f = rw placed at none in absurd (cc)

pub plain-fits : (own : List Setting) (setting : Setting) → is_plain setting.option ≡ true → setting_reason own setting ≡ None → FitsPart own setting
unfolding setting_reason
plain-fits own setting plain none =
    let one = or_parts (opens setting.option) (same_option setting.option options.Disk || is_of_disk setting.option) (not-true _ plain) in
    let two = or_parts (same_option setting.option options.Disk) (is_of_disk setting.option) one.1 in
    part_reason-none own setting (rw (one.0, two.0, two.1) at none)
