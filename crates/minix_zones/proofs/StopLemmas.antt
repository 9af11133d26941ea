-- Which stops a walk comes to, and in what order.
use Rattle.std.proofs.Common.{◌≡◌, ◌⊎◌, ◌≤◌, ◌<◌, ◌+◌, ◌*◌, ◌-◌, ◌^◌, ℕ, zero, suc, Bool, true, false, nat_le, List, [], ◌∷◌, ◌++◌, length, get_or, All, refl, sym, ap, ◌∙◌, subst, inl, inr, ⊎_elim, arith}
use Rattle.std.specs.Prelude.{Contains, AllPairs}
use Rattle.std.proofs.lemmas.List.Elements.{Contains-get_or, Contains-append_left, Contains-append_right, Contains-append_cases}
use Rattle.std.proofs.lemmas.Bool.{leb-true, leb-false}
use Rattle.std.proofs.lemmas.List.Kept.{AllPairs-cons}
use Rattle.lilo_model.specs.MinixLayout.{Kind, reach, numbers_in_zone}
use Rattle.lilo_model.specs.MinixParts.{Pointer}
use Rattle.lilo_model.specs.MinixWalk.{Stop, branch_of, begins, stops_at, stops_from, stop_pointer}
use Rattle.minix_zones.specs.Laws.{IsStop, Before}
use Rattle.minix_zones.proofs.BranchLemmas.{begins_itself, begins_within}
use Rattle.minix_zones.proofs.PointerLemmas.{number_of_trail, stop_for, stop_for-pointer, stop_has_pointer}
use Rattle.std.proofs.Math.Nat.{pow-succ'}
use Rattle.std.proofs.lemmas.Bool.Decides.{nat_tests}

-- ---- lists

cons-cases : {X : Type 0} (x : X) (xs : List X) (y : X) → Contains (x ∷ xs) y → (x ≡ y) ⊎ Contains xs y
cons-cases x xs y (zero, inside, is) = inl is
cons-cases x xs y (suc k, inside, is) = inr (k, omega arith, is)

cons-here : {X : Type 0} (x : X) (xs : List X) → Contains (x ∷ xs) x
cons-here x xs = (0, omega arith, refl)

cons-behind : {X : Type 0} (x : X) (xs : List X) (y : X) → Contains xs y → Contains (x ∷ xs) y
cons-behind x xs y (k, inside, is) = (suc k, omega arith, is)

none-in : {X : Type 0} (y : X) → Contains [] y → ⊥
none-in y (k, inside, is) = omega arith

all-from : {X : Type 0} (P : X → Type 0) (xs : List X) → ((x : X) → Contains xs x → P x) → All P xs
all-from P xs each k d inside = each (get_or xs k d) (Contains-get_or xs k d inside)

pairs-none : {X : Type 0} (R : X → X → Type 0) → AllPairs R []
pairs-none R i j d before inside = absurd (omega arith)

pairs-tail : {X : Type 0} (R : X → X → Type 0) (x : X) (xs : List X) → AllPairs R (x ∷ xs) → AllPairs R xs
pairs-tail R x xs pairs i j d before inside = pairs (suc i) (suc j) d (omega arith) (omega arith)

pairs-head : {X : Type 0} (R : X → X → Type 0) (x : X) (xs : List X) (y : X) → AllPairs R (x ∷ xs) → Contains xs y → R x y
pairs-head R x xs y pairs (k, inside, is) = subst (R x) is (pairs 0 (suc k) _ (omega arith) (omega arith))

by-side : {X : Type 0} (R : X → X → Type 0) (x : X) (xs ys : List X) (y : X) → AllPairs R (x ∷ xs)
    → ((a b : X) → Contains (x ∷ xs) a → Contains ys b → R a b) → Contains xs y ⊎ Contains ys y → R x y
by-side R x xs ys y left across (inl here) = pairs-head R x xs y left here
by-side R x xs ys y left across (inr there) = across x y (cons-here x xs) there

pairs-append : {X : Type 0} (R : X → X → Type 0) (xs ys : List X) → AllPairs R xs → AllPairs R ys
    → ((x y : X) → Contains xs x → Contains ys y → R x y) → AllPairs R (xs ++ ys)
pairs-append R [] ys left right across = right
pairs-append R (x ∷ xs) ys left right across =
    let first = all-from (R x) (xs ++ ys) (λ y here. by-side R x xs ys y left across (Contains-append_cases xs ys y here)) in
    AllPairs-cons R x (xs ++ ys) first (pairs-append R xs ys (pairs-tail R x xs left) right (λ a b here there. across a b (cons-behind x xs a here) there))

-- ---- the stops of a block

start-same : (index level : ℕ) (stop : Stop) → record { index = index; level = level } ≡ stop → (index ≡ stop.index) × (level ≡ stop.level)
start-same index level stop is = (ap (λ (s : Stop). s.index) is, ap (λ (s : Stop). s.level) is)

record LiesAt (per index level : ℕ) (stop : Stop) : Type 0 where
  pub here : stop.index ≡ index
  pub low : stop.level ≤ level
  pub begun : begins per stop.index stop.level ≡ true

lies-itself : (per index level : ℕ) (stop : Stop) → begins per index level ≡ true → record { index = index; level = level } ≡ stop → LiesAt per index level stop
lies-itself per index level stop begun is = subst (LiesAt per index level) is (record { here = refl; low = omega arith; begun = begun })

lies-lower : (per index level : ℕ) (stop : Stop) → LiesAt per index level stop → LiesAt per index (suc level) stop
lies-lower per index level stop lies = record { here = lies.here; low = omega (arith, lies.low); begun = lies.begun }

in-at-by : (per index level : ℕ) (stop : Stop) (begun : Bool) → begins per index (suc level) ≡ begun → Contains (stops_at per index (suc level)) stop
    → (Contains (stops_at per index level) stop → LiesAt per index level stop) → LiesAt per index (suc level) stop
unfolding stops_at
in-at-by per index level stop true is found lower =
    let split = cons-cases (record { index = index; level = suc level }) (stops_at per index level) stop (rw is at found) in
    ⊎_elim (λ (same : record { index = index; level = suc level } ≡ stop). lies-itself per index (suc level) stop is same)
    (λ (there : Contains (stops_at per index level) stop). lies-lower per index level stop (lower there)) split
in-at-by per index level stop false is found lower = lies-lower per index level stop (lower (rw is at found))

in-at : (per index level : ℕ) (stop : Stop) → Contains (stops_at per index level) stop → LiesAt per index level stop
unfolding stops_at
in-at per index zero stop found =
    ⊎_elim (λ is. lies-itself per index 0 stop (begins_itself per index) is) (λ none. absurd (none-in stop none)) (cons-cases (record { index = index; level = 0 }) [] stop found)
in-at per index (suc level) stop found = in-at-by per index level stop (begins per index (suc level)) refl found (in-at per index level stop)

by-level : (lower level : ℕ) → lower ≤ suc level → (under : Bool) → nat_le lower level ≡ under → (lower ≡ suc level) ⊎ (lower ≤ level)
by-level lower level low true is = inr (leb-true lower level is)
by-level lower level low false is = let above = leb-false lower level is in inl (omega arith)

cases-level : (lower level : ℕ) → lower ≤ suc level → (lower ≡ suc level) ⊎ (lower ≤ level)
cases-level lower level low = by-level lower level low (nat_le lower level) refl

at-in-by : (per index level lower : ℕ) (begun : Bool) → begins per index (suc level) ≡ begun → begins per index lower ≡ true
    → (lower ≡ suc level) ⊎ (lower ≤ level) → (lower ≤ level → Contains (stops_at per index level) (record { index = index; level = lower }))
    → Contains (stops_at per index (suc level)) (record { index = index; level = lower })
unfolding stops_at
at-in-by per index level lower true is begun (inl same) found =
    let here = cons-here (record { index = index; level = suc level }) (stops_at per index level) in
    let S : ℕ → Stop = λ n. record { index = index; level = n } in
    rw is (subst (λ n. Contains (S (suc level) ∷ stops_at per index level) (S n)) (sym same) here)
at-in-by per index level lower true is begun (inr under) found =
    rw is (cons-behind (record { index = index; level = suc level }) (stops_at per index level) (record { index = index; level = lower }) (found under))
at-in-by per index level lower false is begun (inl same) found =
    let no : begins per (index) lower ≡ false = ap (begins per index) same ∙ is in cc
at-in-by per index level lower false is begun (inr under) found = rw is (found under)

at-in : (per index level lower : ℕ) → lower ≤ level → begins per index lower ≡ true → Contains (stops_at per index level) (record { index = index; level = lower })
unfolding stops_at
at-in per index zero lower low begun =
    let e : 0 ≡ lower = omega arith in
    let S : ℕ → Stop = λ n. record { index = index; level = n } in
    subst (λ n. Contains (S 0 ∷ []) (S n)) e (cons-here (S 0) [])
at-in per index (suc level) lower low begun =
    at-in-by per index level lower (begins per index (suc level)) refl begun (cases-level lower level low) (λ under. at-in per index level lower under begun)

order-at-by : (per index level : ℕ) (begun : Bool) → begins per index (suc level) ≡ begun → AllPairs Before (stops_at per index level)
    → AllPairs Before (stops_at per index (suc level))
unfolding stops_at
order-at-by per index level true is others =
    let top : Stop = record { index = index; level = suc level } in
    let first = all-from (Before top) (stops_at per index level) (λ y here. let lies = in-at per index level y here in inr (sym lies.here, omega (arith, lies.low))) in
    rw is (AllPairs-cons Before top (stops_at per index level) first others)
order-at-by per index level false is others = rw is others

order-at : (per index level : ℕ) → AllPairs Before (stops_at per index level)
unfolding stops_at
order-at per index zero = AllPairs-cons Before _ [] (λ k d inside. absurd (omega arith)) (pairs-none Before)
order-at per index (suc level) = order-at-by per index level (begins per index (suc level)) refl (order-at per index level)

-- ---- the stops of blocks

record LiesFrom (per index count : ℕ) (stop : Stop) : Type 0 where
  pub after : index ≤ stop.index
  pub before : stop.index < index + count
  pub begun : begins per stop.index stop.level ≡ true

in-from : (per index count : ℕ) (stop : Stop) → Contains (stops_from per index count) stop → LiesFrom per index count stop
unfolding stops_from
in-from per index zero stop found = absurd (none-in stop found)
in-from per index (suc count) stop found =
    ⊎_elim (λ here. let lies = in-at per index 3 stop here in record { after = omega (arith, lies.here); before = omega (arith, lies.here); begun = lies.begun })
    (λ there. let lies = in-from per (index + 1) count stop there in record { after = omega (arith, lies.after); before = omega (arith, lies.before); begun = lies.begun })
    (Contains-append_cases (stops_at per index 3) (stops_from per (index + 1) count) stop found)

by-index : (at index : ℕ) → index ≤ at → (under : Bool) → nat_le at index ≡ under → (at ≡ index) ⊎ (index + 1 ≤ at)
by-index at index after true is = let low = leb-true at index is in inl (omega arith)
by-index at index after false is = let above = leb-false at index is in inr (omega arith)

cases-index : (at index : ℕ) → index ≤ at → (at ≡ index) ⊎ (index + 1 ≤ at)
cases-index at index after = by-index at index after (nat_le at index) refl

from-in : (per index count : ℕ) (stop : Stop) → LiesFrom per index count stop → stop.level ≤ 3 → Contains (stops_from per index count) stop
unfolding stops_from
from-in per index zero stop lies low = absurd (omega (arith, lies.after, lies.before))
from-in per index (suc count) stop lies low =
    ⊎_elim (λ (here : stop.index ≡ index).
    let begun : begins per index stop.level ≡ true = subst (λ n. begins per n stop.level ≡ true) here lies.begun in
    let found = at-in per index 3 stop.level low begun in
    Contains-append_left (stops_at per index 3) (stops_from per (index + 1) count) stop
    (let S : ℕ → Stop = λ n. record { index = n; level = stop.level } in subst (λ n. Contains (stops_at per index 3) (S n)) (sym here) found))
    (λ (there : index + 1 ≤ stop.index).
    Contains-append_right (stops_at per index 3) (stops_from per (index + 1) count) stop
    (from-in per (index + 1) count stop (record { after = there; before = omega (arith, lies.before); begun = lies.begun }) low))
    (cases-index stop.index index lies.after)

order-from : (per index count : ℕ) → AllPairs Before (stops_from per index count)
unfolding stops_from
order-from per index zero = pairs-none Before
order-from per index (suc count) =
    pairs-append Before (stops_at per index 3) (stops_from per (index + 1) count) (order-at per index 3) (order-from per (index + 1) count)
    (λ x y here there. inl (omega (arith, (in-at per index 3 x here).here, (in-from per (index + 1) count y there).after)))

-- ---- the laws

depth-low : (per index : ℕ) → (branch_of per index).depth ≤ 3
unfolding branch_of
depth-low per index = grind (arith, nat_tests)

pub contains_stop : (kind : Kind) (stop : Stop)
    → (Contains (stops_from (numbers_in_zone kind) 0 (reach kind)) stop → IsStop kind stop)
    × (IsStop kind stop → Contains (stops_from (numbers_in_zone kind) 0 (reach kind)) stop)
contains_stop kind stop = (
  λ found. let lies = in-from (numbers_in_zone kind) 0 (reach kind) stop found in record { reached = omega (arith, lies.before); begun = lies.begun },
  λ is. from-in (numbers_in_zone kind) 0 (reach kind) stop (record { after = omega arith; before = omega (arith, is.reached); begun = is.begun })
      (omega (arith, begins_within (numbers_in_zone kind) stop.index stop.level is.begun, depth-low (numbers_in_zone kind) stop.index)),
)

pub order_of_stops : (kind : Kind) → AllPairs Before (stops_from (numbers_in_zone kind) 0 (reach kind))
order_of_stops kind = order-from (numbers_in_zone kind) 0 (reach kind)

pub same_stop : (kind : Kind) (stop other : Stop) → 0 < numbers_in_zone kind → IsStop kind stop → IsStop kind other
    → stop_pointer (numbers_in_zone kind) stop ≡ stop_pointer (numbers_in_zone kind) other → stop ≡ other
same_stop kind stop other some is also same =
    sym (stop_for-pointer kind stop some is) ∙ ap (stop_for (numbers_in_zone kind)) same ∙ stop_for-pointer kind other some also

by-order : (one other : Stop) → one.index ≤ other.index → other.level < one.level → (under : Bool) → nat_le other.index one.index ≡ under → Before one other
by-order one other after low true is = let same = leb-true other.index one.index is in inr (omega arith, low)
by-order one other after low false is = let later = leb-false other.index one.index is in inl (omega arith)

cases-order : (one other : Stop) → one.index ≤ other.index → other.level < one.level → Before one other
cases-order one other after low = by-order one other after low (nat_le other.index one.index) refl

-- an indirect zone's stop comes before that of a number in it, by what their pointers say
parent-by : (per index : ℕ) (pointer : Pointer) → 0 < per → length pointer.trail < pointer.top - 6
    → Before (stop_for per pointer) (stop_for per (record { top = pointer.top; trail = index ∷ pointer.trail }))
parent-by per index pointer some deep =
    let depth = pointer.top - 6 in
    let v = number_of_trail per pointer.trail in
    let low = depth - suc (length pointer.trail) in
    let high : depth - length pointer.trail ≡ suc low = omega arith in
    let m = per ^ low in
    let p : per ^ (depth - length pointer.trail) ≡ per * m = ap (λ n. per ^ n) high ∙ pow-succ' per low in
    let q : v * per ^ (depth - length pointer.trail) ≡ v * (per * m) = ap (λ n. v * n) p in
    let more : (v * per + index) * m ≡ v * (per * m) + index * m = omega arith in
    cases-order (stop_for per pointer) (stop_for per (record { top = pointer.top; trail = index ∷ pointer.trail })) (omega (arith, q, more)) (omega arith)

pub parent_before : (kind : Kind) (stop other : Stop) (index : ℕ) → 0 < numbers_in_zone kind → IsStop kind stop → IsStop kind other
    → stop_pointer (numbers_in_zone kind) other
    ≡ record { top = (stop_pointer (numbers_in_zone kind) stop).top; trail = index ∷ (stop_pointer (numbers_in_zone kind) stop).trail }
    → Before stop other
parent_before kind stop other index some is also below =
    let per = numbers_in_zone kind in
    let parent = stop_pointer per stop in
    let child : Pointer = record { top = parent.top; trail = index ∷ parent.trail } in
    let has = stop_has_pointer kind other some also in
    let deep : length child.trail ≤ child.top - 6 = subst (λ (p : Pointer). length p.trail ≤ p.top - 6) below has.deep in
    let first = stop_for-pointer kind stop some is in
    let second : stop_for per child ≡ other = ap (stop_for per) (sym below) ∙ stop_for-pointer kind other some also in
    subst (λ (s : Stop). Before s other) first (subst (λ (s : Stop). Before (stop_for per parent) s) second (parent-by per index parent some (omega (arith, deep))))
