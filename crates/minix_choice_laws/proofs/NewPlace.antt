-- A place that is chosen wasn't promised before.
use Rattle.std.proofs.Common.{◌≡◌, ◌≤◌, ◌+◌, ◌==◌, ℕ, zero, suc, Bool, true, false, ◌&&◌, nat_le, nat_lt, List, [], ◌∷◌, length, Option, Some, None, refl, sym, ap, ◌∙◌, arith}
use Rattle.std.specs.List.{Contains, list_any}
use Rattle.std.proofs.lemmas.Bool.{eq-eqb}
use Rattle.std.proofs.lemmas.Bool.Decides.{nat_tests}
use Rattle.std.proofs.lemmas.List.Folds.{list_any_at}
use Rattle.lilo_model.specs.MinixEntries.{Entry, places}
use Rattle.lilo_model.specs.MinixLayout.{Kind}
use Rattle.write_model.specs.Growth.{one_if}
use Rattle.write_model.specs.Places.{is_promised, first_free, first_from, within, new_place, most_places}
use Rattle.write_model.specs.Wish.{Promise}

-- ---- past the places that a directory has

-- how many promises of a directory are of a place or one after it
abbrev from_there : ℕ → ℕ → List Promise → ℕ
from_there directory place [] = 0
from_there directory place (promise ∷ promises) = one_if ((promise.directory == directory) && nat_le place promise.place) + from_there directory place promises

few : (directory place : ℕ) (promises : List Promise) → from_there directory place promises ≤ length promises
few directory place [] = omega arith
few directory place (promise ∷ promises) = by (few directory place promises) ((promise.directory == directory) && nat_le place promise.place) refl
  where
    by : from_there directory place promises ≤ length promises → (test : Bool) → ((promise.directory == directory) && nat_le place promise.place) ≡ test → from_there directory place (promise ∷ promises) ≤ length (promise ∷ promises)
    by rest true e = rw e (omega (arith, rest))
    by rest false e = rw e (omega (arith, rest))

weigh : (in_it here on past : Bool) → (past ≡ true → on ≡ true) → (here ≡ true → on ≡ true) → (here ≡ true → past ≡ false) → one_if (in_it && past) + one_if (in_it && here) ≤ one_if (in_it && on)
weigh false here on past a b c = omega arith
weigh true true true true a b c = let t = c refl in cc
weigh true true true false a b c = omega arith
weigh true true false past a b c = let t = b refl in cc
weigh true false true past a b c = by past
  where
    by : (p : Bool) → one_if p + 0 ≤ 1
    by true = omega arith
    by false = omega arith
weigh true false false true a b c = let t = a refl in cc
weigh true false false false a b c = omega arith

-- those of a place don't count past it
fewer : (directory place : ℕ) (promises : List Promise)
    → from_there directory (suc place) promises + one_if (list_any (λ promise. (promise.directory == directory) && (promise.place == place)) promises) ≤ from_there directory place promises
fewer directory place [] = omega arith
fewer directory place (promise ∷ promises) =
    by (fewer directory place promises)
    (weigh (promise.directory == directory) (promise.place == place) (nat_le place promise.place) (nat_le (suc place) promise.place) past-on here-on here-past)
    ((promise.directory == directory) && (promise.place == place)) refl
  where
    past-on : nat_le (suc place) promise.place ≡ true → nat_le place promise.place ≡ true
    past-on is = grind (arith, nat_tests)

    here-on : (promise.place == place) ≡ true → nat_le place promise.place ≡ true
    here-on is = grind (arith, nat_tests)

    here-past : (promise.place == place) ≡ true → nat_le (suc place) promise.place ≡ false
    here-past is = grind (arith, nat_tests)

    by : from_there directory (suc place) promises + one_if (list_any (λ (p : Promise). (p.directory == directory) && (p.place == place)) promises) ≤ from_there directory place promises
        → one_if ((promise.directory == directory) && nat_le (suc place) promise.place) + one_if ((promise.directory == directory) && (promise.place == place)) ≤ one_if ((promise.directory == directory) && nat_le place promise.place)
        → (test : Bool) → ((promise.directory == directory) && (promise.place == place)) ≡ test
        → from_there directory (suc place) (promise ∷ promises) + one_if (list_any (λ (p : Promise). (p.directory == directory) && (p.place == place)) (promise ∷ promises)) ≤ from_there directory place (promise ∷ promises)
    by rest one true e =
        let one' = rw e at one in
        let less : from_there directory (suc place) promises ≤ from_there directory place promises = omega (arith, rest) in
        rw e (omega (arith, one', less))
    by rest one false e =
        let one' = rw e at one in
        rw e (omega (arith, one', rest))

none-left : (test : Bool) → one_if test ≤ 0 → test ≡ false
none-left true low = absurd (omega (arith, low))
none-left false low = refl

free_from : (promises : List Promise) (directory place more : ℕ) → from_there directory place promises ≤ more
    → is_promised promises directory (first_from (is_promised promises directory) place more) ≡ false
unfolding is_promised
free_from promises directory place zero enough =
    let less = fewer directory place promises in
    none-left _ (omega (arith, less, enough))
free_from promises directory place (suc more) enough = by (λ e. free_from promises directory (suc place) more e) (fewer directory place promises) (is_promised promises directory place) refl
  where
    by : (from_there directory (suc place) promises ≤ more → is_promised promises directory (first_from (is_promised promises directory) (suc place) more) ≡ false)
        → from_there directory (suc place) promises + one_if (is_promised promises directory place) ≤ from_there directory place promises
        → (test : Bool) → is_promised promises directory place ≡ test → is_promised promises directory (first_from (is_promised promises directory) place (suc more)) ≡ false
    by rest less true e =
        let less' = rw e at less in
        rw e (rest (omega (arith, less', enough)))
    by rest less false e = rw e e

-- ---- below the size

free_first : (promised : ℕ → Bool) (place : ℕ) (entries : List Entry) (found : ℕ) → first_free promised place entries ≡ Some found → promised found ≡ false
free_first promised place [] found is = cc
free_first promised place (entry ∷ entries) found is = by (free_first promised (suc place) entries found) (entry.inode == 0) refl (promised place) refl
  where
    by : (first_free promised (suc place) entries ≡ Some found → promised found ≡ false)
        → (free : Bool) → (entry.inode == 0) ≡ free → (taken : Bool) → promised place ≡ taken → promised found ≡ false
    by rest true free false taken =
        let t = rw (free, taken) at is in
        let here : place ≡ found = cc in
        ap promised (sym here) ∙ taken
    by rest true free true taken = rest (rw (free, taken) at is)
    by rest false free taken is' = rest (rw free at is)

-- ---- a new place

within_same : (most place found : ℕ) → within most place ≡ Some found → place ≡ found
within_same most place found is = by (nat_lt place most) refl
  where
    by : (test : Bool) → nat_lt place most ≡ test → place ≡ found
    by true e = let t = rw e at is in cc
    by false e = let t = rw e at is in cc

pub new_is_free : (kind : Kind) (promises : List Promise) (directory size : ℕ) (entries : List Entry) (place : ℕ) → new_place kind promises directory size entries ≡ Some place → is_promised promises directory place ≡ false
unfolding new_place
new_is_free kind promises directory size entries place is = by (first_free (is_promised promises directory) 0 entries) refl
  where
    by : (found : Option ℕ) → first_free (is_promised promises directory) 0 entries ≡ found → is_promised promises directory place ≡ false
    by (Some found) e =
        let t = rw e at is in
        let same : found ≡ place = cc in
        free_first (is_promised promises directory) 0 entries place (e ∙ ap Some same)
    by None e =
        let t = rw e at is in
        let same = within_same (most_places kind) (first_from (is_promised promises directory) (places kind size) (length promises)) place t in
        ap (is_promised promises directory) (sym same) ∙ free_from promises directory (places kind size) (length promises) (few directory (places kind size) promises)

-- so it isn't that of an earlier promise
pub not_promised : (promises : List Promise) (promise : Promise) (directory place : ℕ) → is_promised promises directory place ≡ false → Contains promises promise → directory ≡ promise.directory → place ≡ promise.place → ⊥
unfolding is_promised
not_promised promises promise directory place none there in_it at =
    let test : Promise → Bool = λ (p : Promise). (p.directory == directory) && (p.place == place) in
    let here : test promise ≡ true = rw (eq-eqb promise.directory directory (sym in_it), eq-eqb promise.place place (sym at)) refl in
    let any = list_any_at test promises there.0 promise there.1 (ap test there.2 ∙ here) in
    cc
