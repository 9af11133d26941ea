-- Settings cut by how many come before all that open sections.
use Rattle.std.proofs.Common.{◌≡◌, ℕ, ◌+◌, ◌-◌, ◌<◌, Bool, true, false, not, List, [], ◌∷◌, length, take, drop, refl, sym, one-add, arith}
use Rattle.std.proofs.lemmas.List.{take_all, length-drop, drop-drop}
use Rattle.std.specs.List.{prefix_len}
use Rattle.lilo_model.specs.Conf.{with_front, parts_of}
use Rattle.lilo_model.specs.ConfOptions.{opens}
use Rattle.conf_settings.specs.View.{opt_view, settings_view}
use Rattle.conf_settings.specs.declared.setting.Setting.{Setting}

-- how many settings come before all that open sections
abbrev pub front_length : List Setting → ℕ
front_length settings = prefix_len (λ setting. not (opens (opt_view setting.option))) settings

-- cut there, the settings are these parts
pub record IsFront (settings : List Setting) (count : ℕ) : Type 0 where
  pub front : (parts_of (settings_view settings)).front ≡ settings_view (take count settings)
  pub sections : (parts_of (settings_view settings)).sections ≡ (parts_of (settings_view (drop count settings))).sections
  pub behind : (parts_of (settings_view (drop count settings))).front ≡ []

pub parts_of-front : (settings : List Setting) → IsFront settings (front_length settings)
unfolding parts_of with_front
parts_of-front [] = record { front = refl; sections = refl; behind = refl }
parts_of-front (setting ∷ settings) = by (opens (opt_view setting.option)) refl (parts_of-front settings)
  where
    by : (opening : Bool) → opens (opt_view setting.option) ≡ opening → IsFront settings (front_length settings)
        → IsFront (setting ∷ settings) (front_length (setting ∷ settings))
    by true is rest = rw is (record { front = rw (is, with_front) refl; sections = refl; behind = rw (is, with_front) refl })
    by false is rest =
        rw (is, one-add) (record { front = rw (is, with_front, rest.front) refl; sections = rw (is, with_front, rest.sections) refl; behind = rest.behind })

-- settings that begin with a section, cut after it
pub record IsSection (settings : List Setting) (count : ℕ) : Type 0 where
  pub sections : (parts_of (settings_view settings)).sections ≡ settings_view (take count settings) ∷ (parts_of (settings_view (drop count settings))).sections
  pub behind : (parts_of (settings_view (drop count settings))).front ≡ []

pub parts_of-section : (settings : List Setting) → 0 < length settings → (parts_of (settings_view settings)).front ≡ []
    → IsSection settings (1 + front_length (drop 1 settings))
unfolding parts_of with_front
parts_of-section [] some none = absurd (omega arith)
parts_of-section (setting ∷ settings) some none = by (opens (opt_view setting.option)) refl (parts_of-front settings)
  where
    by : (opening : Bool) → opens (opt_view setting.option) ≡ opening → IsFront settings (front_length settings)
        → IsSection (setting ∷ settings) (1 + front_length settings)
    by true is rest = rw one-add (record { sections = rw (is, with_front, rest.front, rest.sections) refl; behind = rest.behind })
    by false is rest = let e = rw (is, with_front) at none in absurd (cc)

-- all from a place on
pub rest_of : (settings : List Setting) (at : ℕ) → take (length settings - at) (drop at settings) ≡ drop at settings
rest_of settings at = take_all _ _ (rw length-drop (omega arith))

-- after the section that begins at a place come the parts of what is after it
pub parts_of-next : (settings : List Setting) (at count : ℕ) → at < length settings → (parts_of (settings_view (drop at settings))).front ≡ []
    → count ≡ 1 + front_length (drop 1 (take (length settings - at) (drop at settings)))
    → ((parts_of (settings_view (drop at settings))).sections
    ≡ settings_view (take (at + count - at) (drop at settings)) ∷ (parts_of (settings_view (drop (at + count) settings))).sections)
    × ((parts_of (settings_view (drop (at + count) settings))).front ≡ [])
parts_of-next settings at count within none is =
    let room : 0 < length (drop at settings) = rw length-drop (omega arith) in
    let size : at + count - at ≡ count = omega arith in
    let same : count ≡ 1 + front_length (drop 1 (drop at settings)) = rw (rest_of settings at) at is in
    let cut = parts_of-section (drop at settings) room none in
    let behind : drop (at + count) settings ≡ drop count (drop at settings) = sym (drop-drop count at settings) in
    rw (size, behind, same) (cut.sections, cut.behind)
