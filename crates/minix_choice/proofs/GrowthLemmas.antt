-- The way to a block of a directory.
use Rattle.std.proofs.Common.{◌≡◌, ◌<◌, ◌≤◌, ◌+◌, ◌-◌, ◌/◌, ◌%◌, ℕ, zero, suc, Bool, true, false, if◌then◌else◌, List, [], ◌∷◌, ◌++◌, map, None, nat_lt, Result, Ok, refl, sym, ap, ◌∙◌, arith}
use Rattle.std.proofs.lemmas.List.{map-append}
use Rattle.std.specs.List.{range_with_len}
use Rattle.lilo_model.specs.Checks.{◌>>=◌}
use Rattle.lilo_model.specs.MinixLayout.{Super}
use Rattle.lilo_model.specs.MinixParts.{ZoneFault, inside, number_below, trail_of}
use Rattle.std.proofs.lemmas.Bool.Decides.{nat_tests}
use Rattle.write_model.specs.Places.{first_from, within}
use Rattle.write_model.specs.Growth.{Way, way_on, way_along}

-- the last step of a way
pub way_along_below : (super : Super) (bytes_of : ℕ → List ℕ) (zone per depth index : ℕ) → 0 < depth
    → way_along super bytes_of zone (trail_of per depth index)
    ≡ (way_along super bytes_of zone (trail_of per (depth - 1) (index / per))
    >>= λ above. inside super (number_below super.kind bytes_of above.zone (index % per))
    >>= λ found. Ok (way_on found above.missing))
unfolding way_along
way_along_below super bytes_of zone per zero index some = absurd (omega arith)
way_along_below super bytes_of zone per (suc depth) index some =
    let e : depth ≡ suc depth - 1 = omega arith in
    let W : ℕ → Result Way ZoneFault = λ left. way_along super bytes_of zone (trail_of per left (index / per))
    >>= λ above. inside super (number_below super.kind bytes_of above.zone (index % per))
    >>= λ found. Ok (way_on found above.missing) in
    ap W e

-- ---- levels

range_more : (from count : ℕ) → range_with_len from (suc count) ≡ range_with_len from count ++ ((from + count) ∷ [])
range_more from zero =
    let e : from ≡ from + 0 = omega arith in
    ap (λ n. n ∷ []) e
range_more from (suc count) =
    let e : (from + 1) + count ≡ from + suc count = omega arith in
    ap (λ rest. from ∷ rest) (range_more (from + 1) count ∙ ap (λ n. range_with_len (from + 1) count ++ (n ∷ [])) e)

map_more : {A : Type 0} (f : ℕ → A) (count : ℕ) → map f (range_with_len 0 (count + 1)) ≡ map f (range_with_len 0 count) ++ (f count ∷ [])
map_more {A} f count =
    let e : count + 1 ≡ suc count = omega arith in
    let z : 0 + count ≡ count = omega arith in
    let M : ℕ → List A = λ n. map f (range_with_len 0 n) in
    let N : ℕ → List A = λ n. map f (range_with_len 0 count) ++ (f n ∷ []) in
    ap M e ∙ ap (map f) (range_more 0 count) ∙ map-append f (range_with_len 0 count) ((0 + count) ∷ []) ∙ ap N z

-- one level more
pub level_more : {A : Type 0} (f : ℕ → A) (level : ℕ) (zones after : List A) (value : A) → zones ≡ map f (range_with_len 0 level) → value ≡ f level
    → after ≡ zones ++ (value ∷ []) → after ≡ map f (range_with_len 0 (level + 1))
level_more f level zones after value so_far is pushed = rw (pushed, so_far, is) (sym (map_more f level))

-- ---- places after

least_by : (taken : Bool) (place next : ℕ) → place ≤ next → place ≤ (if taken then next else place)
least_by true place next order = order
least_by false place next order = omega arith

-- the place that is found isn't before the first one
from_least : (promised : ℕ → Bool) (place left : ℕ) → place ≤ first_from promised place left
from_least promised place zero = omega arith
from_least promised place (suc left) =
    least_by (promised place) place (first_from promised (suc place) left) (omega (arith, from_least promised (suc place) left))

-- so none is found where that is too far
pub none_behind : (promised : ℕ → Bool) (place left most whole : ℕ) → most ≤ place → first_from promised place left ≡ whole → None ≡ within most whole
none_behind promised place left most whole far is =
    let far' : most ≤ whole = omega (arith, from_least promised place left, is, far) in
    let test : nat_lt whole most ≡ false = grind (arith, nat_tests) in
    rw test refl
