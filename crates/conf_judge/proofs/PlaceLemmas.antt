-- A reader of settings judges each by those before it in its part.
use Rattle.std.proofs.Common.{◌≡◌, ◌∙◌, ℕ, ◌+◌, ◌-◌, ◌≤◌, ◌<◌, Bool, true, false, List, [], ◌∷◌, ◌++◌, length, take, drop, get_or, refl, sym, add-one, drop-cons, arith}
use Rattle.std.specs.Prelude.{Option, None, Some, if◌then◌else◌}
use Rattle.std.specs.Option.{option_map}
use Rattle.std.proofs.lemmas.List.{take_more, map-append, get_or-drop, length-drop}
use Rattle.lilo_model.specs.ConfOptions.{opens}
use Rattle.lilo_model.specs.ConfRefusal as refusals
use Rattle.lilo_model.specs.ConfSettings as model
use Rattle.lilo_model.specs.ConfJudge.{setting_reason, settings_refusal, part_after}
use Rattle.conf_settings.specs.View.{opt_view, reason_view, fault_view, setting_view, settings_view}
use Rattle.conf_settings.specs.declared.reason.ConfReason.{ConfReason}
use Rattle.conf_settings.specs.declared.setting.Setting.{Setting}

-- the settings from one place to another
abbrev pub part_at : ℕ → ℕ → List Setting → List Setting
part_at start index all = take (index - start) (drop start all)

-- a setting that is refused at its place is the first refusal
pub settings_refusal-here : (own behind : List model.Setting) (setting : Setting) (reason : ConfReason)
    → Some (reason_view reason) ≡ option_map (λ x. Some x) (setting_reason own (setting_view setting))
    → Some (fault_view (record { reason = reason; option = setting.option; line = setting.line }))
    ≡ option_map (λ x. Some x) (settings_refusal own (setting_view setting ∷ behind))
unfolding settings_refusal
settings_refusal-here own behind setting reason = by (setting_reason own (setting_view setting)) refl
  where
    by : (judged : Option refusals.ConfReason) → setting_reason own (setting_view setting) ≡ judged
        → Some (reason_view reason) ≡ option_map (λ x. Some x) judged
        → Some (fault_view (record { reason = reason; option = setting.option; line = setting.line }))
        ≡ option_map (λ x. Some x) (settings_refusal own (setting_view setting ∷ behind))
    by None is told = let e = told in cc
    by (Some judged) is told = let e : reason_view reason ≡ Some judged = cc in rw (is, settings_refusal, e) refl

-- one that isn't comes before the rest
pub settings_refusal-next : (own behind : List model.Setting) (setting : model.Setting)
    → None ≡ option_map (λ x. Some x) (setting_reason own setting)
    → settings_refusal own (setting ∷ behind) ≡ settings_refusal (part_after own setting) behind
unfolding settings_refusal
settings_refusal-next own behind setting = by (setting_reason own setting) refl
  where
    by : (judged : Option refusals.ConfReason) → setting_reason own setting ≡ judged → None ≡ option_map (λ x. Some x) judged
        → settings_refusal own (setting ∷ behind) ≡ settings_refusal (part_after own setting) behind
    by None is told = rw (is, settings_refusal) refl
    by (Some judged) is told = let e = told in cc

-- the settings from a place on begin with the one there
pub settings_at : (all : List Setting) (index : ℕ) (setting : Setting) → index < length all → setting ≡ get_or all index setting
    → settings_view (drop index all) ≡ setting_view setting ∷ settings_view (drop (index + 1) all)
settings_at all index setting within is =
    rw (add-one, drop-cons all index setting within, ← is) refl

-- the settings of a part up to and with a place end with the one there
pub part_at-more : (all : List Setting) (start index : ℕ) (setting : Setting) → start ≤ index → index < length all
    → setting ≡ get_or all index setting
    → settings_view (part_at start (index + 1) all) ≡ settings_view (part_at start index all) ++ setting_view setting ∷ []
part_at-more all start index setting before within is =
    let size : index + 1 - start ≡ index - start + 1 = omega arith in
    let room : index - start < length (drop start all) = rw length-drop (omega arith) in
    let place : start + (index - start) ≡ index = omega arith in
    rw (size, take_more (drop start all) (index - start) setting room, get_or-drop start all (index - start) setting, place, ← is)
    (map-append setting_view (part_at start index all) (setting ∷ []))

-- what is left after one that isn't refused
pub settings_refusal-rest : (all : List Setting) (start index next : ℕ) (setting : Setting) → start ≤ index → index < length all
    → setting ≡ get_or all index setting
    → None ≡ option_map (λ x. Some x) (setting_reason (settings_view (part_at start index all)) (setting_view setting))
    → next ≡ (if opens (opt_view setting.option) then index else start)
    → settings_refusal (settings_view (part_at next (index + 1) all)) (settings_view (drop (index + 1) all))
    ≡ settings_refusal (settings_view (part_at start index all)) (settings_view (drop index all))
unfolding part_after
settings_refusal-rest all start index next setting before within is none chosen =
    by (opens (opt_view setting.option)) refl ∙ sym (rw (settings_at all index setting within is) (settings_refusal-next _ _ _ none))
  where
    by : (opening : Bool) → opens (opt_view setting.option) ≡ opening
        → settings_refusal (settings_view (part_at next (index + 1) all)) (settings_view (drop (index + 1) all))
        ≡ settings_refusal (part_after (settings_view (part_at start index all)) (setting_view setting)) (settings_view (drop (index + 1) all))
    by true opening =
        let here : next ≡ index = chosen ∙ rw opening refl in
        let one : settings_view (part_at index (index + 1) all) ≡ setting_view setting ∷ [] =
        part_at-more all index index setting (omega arith) within is ∙ rw (let e : index - index ≡ 0 = omega arith in e) refl in
        rw (here, one, opening) refl
    by false opening =
        let same : next ≡ start = chosen ∙ rw opening refl in
        rw (same, part_at-more all start index setting before within is, opening) refl
