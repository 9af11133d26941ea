-- The disk of a group: that of the `disk` which comes before what is said of it.
use Rattle.std.proofs.Common.{◌≡◌, ℕ, zero, suc, ◌+◌, ◌-◌, ◌<◌, ◌≤◌, Bool, true, false, List, [], ◌∷◌, ◌++◌, length, Some, refl, ◌∙◌, cond, arith}
use Rattle.std.specs.Prelude.{nat_lt, slice_get}
use Rattle.std.proofs.lemmas.Bool.{ltb-true, ltb-false, lt-ltb, le-ltb}
use Rattle.std.proofs.lemmas.List.{reverse-append, length-append}
use Rattle.lilo_model.specs.ConfOptions.{is_of_disk}
use Rattle.lilo_model.specs.ConfSettings.{Setting}
use Rattle.lilo_model.specs.ConfJudge.{setting_disk, details_count, group_disk}

slice_get-push : {A : Type 0} (items : List A) (item : A) (k : ℕ) → k < length items → slice_get (items ++ item ∷ []) k ≡ slice_get items k
slice_get-push [] item k within = absurd (omega (arith, within))
slice_get-push (first ∷ items) item zero within = refl
slice_get-push (first ∷ items) item (suc k) within = slice_get-push items item k (omega (arith, within))

slice_get-last : {A : Type 0} (items : List A) (item : A) → slice_get (items ++ item ∷ []) (length items) ≡ Some item
slice_get-last [] item = refl
slice_get-last (first ∷ items) item = slice_get-last items item

details_count-push : (own : List Setting) (setting : Setting) → details_count (own ++ setting ∷ []) ≡ cond (is_of_disk setting.option) (1 + details_count own) 0
unfolding details_count
details_count-push own setting = rw (reverse-append own (setting ∷ [])) refl

-- a setting that says nothing of a disk begins what comes after it
pub group_disk-begun : (own : List Setting) (setting : Setting) → is_of_disk setting.option ≡ false → group_disk (own ++ setting ∷ []) ≡ setting_disk setting
unfolding group_disk
group_disk-begun own setting none =
    let count : details_count (own ++ setting ∷ []) ≡ 0 = details_count-push own setting ∙ rw none refl in
    let many : length (own ++ setting ∷ []) ≡ length own + 1 = length-append own (setting ∷ []) in
    let some : nat_lt 0 (length own + 1) ≡ true = lt-ltb 0 (length own + 1) (omega arith) in
    let place : length own + 1 - 0 - 1 ≡ length own = omega arith in
    rw (count, many, some, place, slice_get-last own setting) refl

-- the group goes on with what says something of its disk
pub group_disk-told : (own : List Setting) (setting : Setting) → is_of_disk setting.option ≡ true → group_disk (own ++ setting ∷ []) ≡ group_disk own
unfolding group_disk
group_disk-told own setting told = by _ refl
  where
    count : details_count (own ++ setting ∷ []) ≡ 1 + details_count own
    count = details_count-push own setting ∙ rw told refl

    many : length (own ++ setting ∷ []) ≡ length own + 1
    many = length-append own (setting ∷ [])

    by : (some : Bool) → nat_lt (details_count own) (length own) ≡ some → group_disk (own ++ setting ∷ []) ≡ group_disk own
    by true some =
        let low : details_count own < length own = ltb-true _ _ some in
        let more : nat_lt (1 + details_count own) (length own + 1) ≡ true = lt-ltb (1 + details_count own) (length own + 1) (omega (arith, low)) in
        let place : length own + 1 - (1 + details_count own) - 1 ≡ length own - details_count own - 1 = omega (arith, low) in
        rw (count, many, more, some, place, slice_get-push own setting (length own - details_count own - 1) (omega (arith, low))) refl
    by false some =
        let high : length own ≤ details_count own = ltb-false _ _ some in
        let more : nat_lt (1 + details_count own) (length own + 1) ≡ false = le-ltb (1 + details_count own) (length own + 1) (omega (arith, high)) in
        rw (count, many, more, some) refl
