-- Where no setting is refused, those of each part are unrefused in it.
use Rattle.std.proofs.Common.{◌≡◌, ℕ, Bool, true, false, List, [], ◌∷◌, ◌++◌, Some, None, Option, refl}
use Rattle.std.specs.List.{AllByRecursion}
use Rattle.lilo_model.specs.ConfOptions.{opens}
use Rattle.lilo_model.specs.ConfRefusal.{ConfReason}
use Rattle.lilo_model.specs.ConfSettings.{Setting}
use Rattle.lilo_model.specs.ConfJudge.{value_reason, setting_reason, part_after, settings_refusal}
use Rattle.lilo_model.specs.Conf.{ConfParts, with_front, parts_of}
use Rattle.conf_laws.proofs.Settings.{Stands, AllStand}
use Rattle.conf_laws.proofs.Sizes.{IsSmall}

-- settings of a section: the first opens it with a value, and the others come after it
pub record Opened (size : ℕ) (first : Setting) (rest : List Setting) : Type 0 where
  pub opening : opens first.option ≡ true
  pub fine : value_reason 0 first ≡ None
  pub small : IsSmall size first
  pub stand : AllStand size (first ∷ []) rest

abbrev pub IsOpened : ℕ → List Setting → Type 0
IsOpened size [] = ⊥
IsOpened size (first ∷ rest) = Opened size first rest

-- the settings of parts are there, those before all sections after others
pub record AreParts (size : ℕ) (own : List Setting) (parts : ConfParts) : Type 0 where
  pub front : AllStand size own parts.front
  pub sections : AllByRecursion (IsOpened size) parts.sections

opening-fine : (own : List Setting) (setting : Setting) → opens setting.option ≡ true → setting_reason own setting ≡ None → value_reason 0 setting ≡ None
unfolding setting_reason
opening-fine own setting opening none = rw opening at none

with_front-parts : (size : ℕ) (own : List Setting) (setting : Setting) (parts : ConfParts) → IsSmall size setting → setting_reason own setting ≡ None
    → AreParts size (part_after own setting) parts → AreParts size own (with_front setting parts)
unfolding with_front part_after
with_front-parts size own setting parts small none stand = by _ refl
  where
    by : (opening : Bool) → opens setting.option ≡ opening → AreParts size own (with_front setting parts)
    by true is =
        let behind : AllStand size (setting ∷ []) parts.front = rw is at stand.front in
        let first : Opened size setting parts.front = record { opening = is; fine = opening-fine own setting is none; small = small; stand = behind } in
        rw is (record { front = tt; sections = (first, stand.sections) })
    by false is =
        let behind : AllStand size (own ++ setting ∷ []) parts.front = rw is at stand.front in
        let here : Stands size own setting = record { inside = is; fine = none; small = small } in
        rw is (record { front = (here, behind); sections = stand.sections })

pub parts_of-stand : (size : ℕ) (own settings : List Setting) → AllByRecursion (IsSmall size) settings → settings_refusal own settings ≡ None
    → AreParts size own (parts_of settings)
unfolding parts_of settings_refusal
parts_of-stand size own [] small none = record { front = tt; sections = tt }
parts_of-stand size own (setting ∷ settings) small none = by _ refl (parts_of-stand size (part_after own setting) settings small.1)
  where
    by : (reason : Option ConfReason) → setting_reason own setting ≡ reason
        → (settings_refusal (part_after own setting) settings ≡ None → AreParts size (part_after own setting) (parts_of settings))
        → AreParts size own (with_front setting (parts_of settings))
    by (Some reason) is rest = let e = rw (is, settings_refusal) at none in absurd (cc)
    by None is rest = with_front-parts size own setting (parts_of settings) small.0 is (rest (rw (is, settings_refusal) at none))
