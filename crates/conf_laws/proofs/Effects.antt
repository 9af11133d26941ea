-- The values that are in effect in a section.
use Rattle.std.proofs.Common.{◌≡◌, ℕ, ◌≤◌, Bool, true, false, ◌||◌, List, [], ◌∷◌, length, Some, None, Option, inl, inr, refl, ◌∙◌, ap}
use Rattle.std.specs.Prelude.{IfSome, is_some, if◌then◌else◌, ◌⊎◌}
use Rattle.std.specs.Option.{option_and_then}
use Rattle.std.proofs.lemmas.Bool.{or_parts, not-true, false_from_ne_true}
use Rattle.lilo_model.specs.ConfOptions as options
use Rattle.lilo_model.specs.ConfOptions.{Opt, Part, GlobalPart, ImagePart, OtherPart, Takes, takes_of, opens, stands_in, is_of_disk, is_of_name, same_option}
use Rattle.lilo_model.specs.Devices.{device_at}
use Rattle.lilo_model.specs.ConfValues.{is_value, is_shown}
use Rattle.lilo_model.specs.ConfSettings.{Given, Bare, Sign, Value, Setting}
use Rattle.lilo_model.specs.ConfJudge.{given_text, setting_of, has_option, part_kind, takes_nothing, given_reason, value_reason}
use Rattle.lilo_model.specs.Conf.{value_of, effect_value, section_path, conf_limit}
use Rattle.lilo_model.specs.ConfLawful.{IsPath, IsLineText, IsEntryName}
use Rattle.conf_laws.proofs.Options.{same_option-same}
use Rattle.conf_laws.proofs.Settings.{AllStand, is_plain, FitsValue, value_reason-none}
use Rattle.conf_laws.proofs.Given.{IsGiven, value_of-given, has_option-placed}
use Rattle.conf_laws.proofs.Parts.{Opened}

-- ---- what a fitting value is

pub fits-path : (one : Opt) (text : List ℕ) → takes_of one ≡ options.APath → FitsValue one 0 text → length text ≤ conf_limit → IsPath text
unfolding is_value
fits-path one text takes fits small = let e = fits.value in record { path = rw takes at e; size = small }

pub fits-line : (one : Opt) (text : List ℕ) → takes_of one ≡ options.AText → FitsValue one 0 text → length text ≤ conf_limit → IsLineText text
unfolding is_value
fits-line one text takes fits small = let e = fits.value in record { plain = rw takes at e; size = small }

pub fits-name : (one : Opt) (text : List ℕ) → takes_of one ≡ options.AName → is_of_name one ≡ true → FitsValue one 0 text → IsEntryName text
unfolding is_value
fits-name one text takes named fits = let e = fits.value in record { name = rw takes at e; size = fits.name named }

pub fits-shown : (most : ℕ) (one : Opt) (text : List ℕ) → takes_of one ≡ options.AShown most → FitsValue one 0 text → is_shown most text ≡ true
unfolding is_value
fits-shown most one text takes fits = let e = fits.value in rw takes at e

pub fits-device : (one : Opt) (text : List ℕ) → takes_of one ≡ options.ADevice → FitsValue one 0 text → is_some (device_at text) ≡ true
unfolding is_value
fits-device one text takes fits = let e = fits.value in rw takes at e

-- ---- what holds of a value where there is one

pub if_some : {X : Type 0} (P : X → Type 0) (found : Option X) → ((x : X) → found ≡ Some x → P x) → IfSome found P
if_some P None each = tt
if_some P (Some x) each = each x refl

pub if_meant : {X : Type 0} (P : X → Type 0) (means : List ℕ → Option X) (found : Option (List ℕ)) → ((text : List ℕ) (x : X) → found ≡ Some text → means text ≡ Some x → P x)
    → IfSome (option_and_then means found) P
if_meant P means None each = tt
if_meant P means (Some text) each = if_some P (means text) (λ x. each text x refl)

never-some : (found : Option (List ℕ)) → ((text : List ℕ) → found ≡ Some text → ⊥) → found ≡ None
never-some None never = refl
never-some (Some text) never = absurd (never text refl)

-- ---- what a section says

opener-apart : (one opener : Opt) → is_plain one ≡ true → opens opener ≡ true → same_option opener one ≡ false
opener-apart one opener plain opening = false_from_ne_true _ (λ same. both (same_option-same opener one same))
  where
    both : opener ≡ one → ⊥
    both same =
        let none = (or_parts (opens one) (same_option one options.Disk || is_of_disk one) (not-true _ plain)).0 in
        let some = rw same at opening in
        absurd (cc)

-- the option that opens one
pub opening-cases : (one : Opt) → opens one ≡ true → (one ≡ options.Image) ⊎ (one ≡ options.OtherDevice)
unfolding opens
opening-cases options.Image is = inl refl
opening-cases options.OtherDevice is = inr refl
opening-cases _ is = absurd (cc)

-- what opens it has a value
pub record OpeningValue (first : Setting) (rest : List Setting) : Type 0 where
  pub given : given_text first.given ≡ Some (section_path (first ∷ rest))
  pub fits : FitsValue first.option 0 (section_path (first ∷ rest))

valueless-refused : (one : Opt) (given : Given) → takes_nothing (takes_of one) ≡ false → given_text given ≡ None → given_reason one 0 given ≡ None → ⊥
unfolding given_text given_reason
valueless-refused one Bare takes is fine = let e = rw takes at fine in absurd (cc)
valueless-refused one Sign takes is fine = let e = rw takes at fine in absurd (cc)
valueless-refused one (Value text) takes is fine = absurd (cc)

pub opening-value : (first : Setting) (rest : List Setting) → value_reason 0 first ≡ None → takes_nothing (takes_of first.option) ≡ false → OpeningValue first rest
unfolding section_path value_reason
opening-value first rest fine takes = by _ refl
  where
    by : (found : Option (List ℕ)) → given_text first.given ≡ found → OpeningValue first rest
    by (Some text) is = let path : section_path (first ∷ rest) ≡ text = rw is refl in record { given = rw path is; fits = rw path (value_reason-none 0 first text fine is) }
    by None is = absurd (valueless-refused first.option first.given takes is fine)

module _ (size : ℕ) (front : List Setting) (first : Setting) (rest : List Setting) (stand : AllStand size [] front) (opened : Opened size first rest) where
  pub own-given : (one : Opt) (text : List ℕ) → is_plain one ≡ true → value_of one (first ∷ rest) ≡ Some text → IsGiven size (part_kind (first ∷ rest)) one text
  unfolding value_of setting_of part_kind
  own-given one text plain is = value_of-given size one (first ∷ []) rest text plain opened.stand (rw (opener-apart one first.option plain opened.opening) at is)

  own-placed : (one : Opt) → is_plain one ≡ true → has_option one (first ∷ rest) ≡ true → stands_in (part_kind (first ∷ rest)) one ≡ true
  unfolding has_option part_kind
  own-placed one plain is = has_option-placed size one (first ∷ []) rest plain opened.stand (rw (opener-apart one first.option plain opened.opening) at is)

  front-given : (one : Opt) (text : List ℕ) → is_plain one ≡ true → value_of one front ≡ Some text → IsGiven size GlobalPart one text
  unfolding part_kind
  front-given one text plain is = value_of-given size one [] front text plain stand is

  pub effect-given : (one : Opt) (text : List ℕ) → is_plain one ≡ true → effect_value one front (first ∷ rest) ≡ Some text → IsGiven size (part_kind (first ∷ rest)) one text
  unfolding effect_value
  effect-given one text plain is = by _ refl
    where
      global : (placed : Bool) → stands_in (part_kind (first ∷ rest)) one ≡ placed → (if placed then value_of one front else None) ≡ Some text → IsGiven size (part_kind (first ∷ rest)) one text
      global true placed e = let here = front-given one text plain e in record { placed = placed; fits = here.fits; small = here.small }
      global false placed e = absurd (cc)

      by : (own : Option (List ℕ)) → value_of one (first ∷ rest) ≡ own → IsGiven size (part_kind (first ∷ rest)) one text
      by (Some other) own = let e = rw own at is in let same : other ≡ text = cc in own-given one text plain (own ∙ ap Some same)
      by None own = global _ refl (rw own at is)

  -- what isn't allowed there isn't in effect
  pub effect-none : (one : Opt) → is_plain one ≡ true → stands_in (part_kind (first ∷ rest)) one ≡ false → effect_value one front (first ∷ rest) ≡ None
  effect-none one plain misplaced = never-some _ (λ text is. let e = (effect-given one text plain is).placed in absurd (cc))

  pub own-none : (one : Opt) → is_plain one ≡ true → stands_in (part_kind (first ∷ rest)) one ≡ false → value_of one (first ∷ rest) ≡ None
  own-none one plain misplaced = never-some _ (λ text is. let e = (own-given one text plain is).placed in absurd (cc))

  pub own-absent : (one : Opt) → is_plain one ≡ true → stands_in (part_kind (first ∷ rest)) one ≡ false → has_option one (first ∷ rest) ≡ false
  own-absent one plain misplaced = false_from_ne_true _ (λ has. let e = own-placed one plain has in absurd (cc))
