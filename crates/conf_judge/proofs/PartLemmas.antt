-- What is looked for among settings is what the model looks for among those that they stand for.
use Rattle.std.proofs.Common.{◌≡◌, ◌∙◌, ℕ, ◌+◌, ◌-◌, Bool, true, false, List, [], ◌∷◌, length, map, take, drop, refl, sym, ap, arith}
use Rattle.std.specs.Prelude.{Some, find, if◌then◌else◌, ◌||◌}
use Rattle.std.specs.List.{list_any, prefix_len, suffix_len, take_while}
use mathlib.Core.List.{reverse, reverse_aux}
use Rattle.std.proofs.lemmas.List.{drop-map, take-map, length-map, take_all, length-drop}
use Rattle.std.specs.Option.{option_map}
use Rattle.lilo_model.specs.ConfOptions.{same_option, is_of_disk}
use Rattle.lilo_model.specs.ConfJudge as model
use Rattle.conf_settings.specs.View.{opt_view, setting_view, settings_view}
use Rattle.conf_settings.specs.declared.option.Opt.{Opt}
use Rattle.conf_settings.specs.declared.setting.Setting.{Setting}

-- the first that passes a test, seen otherwise
pub find-map : {A B : Type 0} (view : A → B) (p : B → Bool) (xs : List A)
    → option_map view (find (λ x. p (view x)) xs) ≡ find p (map view xs)
find-map view p [] = refl
find-map {A = A} {B = B} view p (x ∷ xs) = by (p (view x)) (find-map view p xs)
  where
    by : (test : Bool) → option_map view (find (λ y. p (view y)) xs) ≡ find p (map view xs)
        → option_map view (if test then Some x else find (λ y. p (view y)) xs) ≡ (if test then Some (view x) else find p (map view xs))
    by true behind = refl
    by false behind = behind

-- whether any passes a test, seen otherwise
pub any-map : {A B : Type 0} (view : A → B) (p : B → Bool) (xs : List A)
    → list_any (λ x. p (view x)) xs ≡ list_any p (map view xs)
any-map view p [] = refl
any-map view p (x ∷ xs) = ap (λ behind. p (view x) || behind) (any-map view p xs)

pub find_setting : (option : Opt) (settings : List Setting)
    → option_map setting_view (find (λ setting. same_option (opt_view setting.option) (opt_view option)) settings)
    ≡ model.setting_of (opt_view option) (settings_view settings)
unfolding model.setting_of
find_setting option settings = find-map setting_view (λ setting. same_option setting.option (opt_view option)) settings

pub any_setting : (option : Opt) (settings : List Setting)
    → list_any (λ setting. same_option (opt_view setting.option) (opt_view option)) settings
    ≡ model.has_option (opt_view option) (settings_view settings)
unfolding model.has_option
any_setting option settings = any-map setting_view (λ setting. same_option setting.option (opt_view option)) settings

-- how many pass a test at the start, seen otherwise
pub prefix_len-map : {A B : Type 0} (view : A → B) (p : B → Bool) (xs : List A)
    → prefix_len (λ x. p (view x)) xs ≡ prefix_len p (map view xs)
prefix_len-map view p [] = refl
prefix_len-map view p (x ∷ xs) = ap (λ behind. if p (view x) then 1 + behind else 0) (prefix_len-map view p xs)

map-reverse_aux : {A B : Type 0} (view : A → B) (xs ys : List A)
    → map view (reverse_aux xs ys) ≡ reverse_aux (map view xs) (map view ys)
map-reverse_aux view [] ys = refl
map-reverse_aux view (x ∷ xs) ys = map-reverse_aux view xs (x ∷ ys)

pub take_details : (settings : List Setting) (count : ℕ) → count ≡ prefix_len (λ setting. is_of_disk (opt_view setting.option)) settings
    → settings_view (take count settings) ≡ take_while (λ setting. is_of_disk setting.option) (settings_view settings)
take_details settings count is =
    rw (is, prefix_len-map setting_view (λ setting. is_of_disk setting.option) settings) (sym (take-map setting_view _ settings))

pub count_details : (own : List Setting)
    → suffix_len (λ setting. is_of_disk (opt_view setting.option)) own ≡ model.details_count (settings_view own)
unfolding model.details_count
count_details own =
    prefix_len-map setting_view (λ setting. is_of_disk setting.option) (reverse own)
    ∙ ap (prefix_len (λ setting. is_of_disk setting.option)) (map-reverse_aux setting_view own [])

pub drop_details : (own : List Setting) (count : ℕ) → count ≡ model.details_count (settings_view own)
    → settings_view (take (length own - (length own - count)) (drop (length own - count) own)) ≡ model.details_of (settings_view own)
unfolding model.details_of
drop_details own count is =
    let all : take (length own - (length own - count)) (drop (length own - count) own) ≡ drop (length own - count) own = take_all _ _ (rw length-drop (omega arith)) in
    rw (all, is, ← drop-map setting_view (length own - model.details_count (settings_view own)) own, length-map own setting_view) refl
