-- Where a walk over an inode's zones meets no refusal, each of its blocks is given.
use Rattle.std.proofs.Common.{◌≡◌, ◌≤◌, ◌<◌, ◌≢◌, ℕ, zero, suc, ◌+◌, ◌-◌, ◌*◌, ◌/◌, ◌^◌, ◌==◌, nat_lt, Bool, true, false, if◌then◌else◌, List, [], ◌∷◌, ◌++◌, Result, Ok, Err, refl, sym, ◌∙◌, ap, subst, arith, eq-eqb}
use Rattle.std.proofs.lemmas.Bool.{eqb-true}
use native.Mathlib.Numerals.{unary_clauses}
use Rattle.lilo_model.specs.MinixLayout.{Super, Inode, numbers_in_zone, reach}
use Rattle.lilo_model.specs.MinixParts.{Parts, ZoneFault, Pointer, pointer_with, pointer_by, at_pointer, zone_at}
use Rattle.lilo_model.specs.MinixWalk.{Visit, Stop, branch_of, place_in_branch, begins, stops_at, stops_from, stop_pointer, stop_number, met_then, met_at, visits}

-- nothing is refused
abbrev pub NoRefusal : List (Result Visit ZoneFault) → Type 0
NoRefusal [] = Unit {0}
NoRefusal (Ok visit ∷ others) = NoRefusal others
NoRefusal (Err fault ∷ others) = ⊥

-- the number at each of some stops is given
abbrev AreNumbers : (Stop → Result ℕ ZoneFault) → List Stop → Type 0
AreNumbers number [] = Unit {0}
AreNumbers number (stop ∷ stops) = ((zone : ℕ) × (number stop ≡ Ok zone)) × AreNumbers number stops

module _ (number : Stop → Result ℕ ZoneFault) where
  later-by : (stop : Stop) (zone : ℕ) (hole : Bool) (others : List (Result Visit ZoneFault)) → (zone == 0) ≡ hole → NoRefusal (met_then stop (Ok zone) others) → NoRefusal others
  later-by stop zone true others is none = rw is at none
  later-by stop zone false others is none = rw is at none

  are_numbers : (stops : List Stop) → NoRefusal (met_at number stops) → AreNumbers number stops
  are_numbers [] none = tt
  are_numbers (stop ∷ stops) none = by_case (λ others. are_numbers stops others) (number stop) refl
    where
      by_case : (NoRefusal (met_at number stops) → AreNumbers number stops) → (found : Result ℕ ZoneFault) → number stop ≡ found → AreNumbers number (stop ∷ stops)
      by_case behind (Ok zone) is =
          let here : NoRefusal (met_then stop (Ok zone) (met_at number stops)) = subst (λ r. NoRefusal (met_then stop r (met_at number stops))) is none in
          ((zone, is), behind (later-by stop zone _ (met_at number stops) refl here))
      by_case behind (Err fault) is =
          let here : ⊥ = subst (λ r. NoRefusal (met_then stop r (met_at number stops))) is none in absurd here

  numbers-behind : (stops others : List Stop) → AreNumbers number (stops ++ others) → AreNumbers number others
  numbers-behind [] others all = all
  numbers-behind (stop ∷ stops) others all = numbers-behind stops others all.1

  numbers-before : (stops others : List Stop) → AreNumbers number (stops ++ others) → AreNumbers number stops
  numbers-before [] others all = tt
  numbers-before (stop ∷ stops) others all = (all.0, numbers-before stops others all.1)

  -- the block's own stop is the last one at it
  last-number : (per index level : ℕ) → AreNumbers number (stops_at per index level) → (zone : ℕ) × (number (record { index = index; level = 0 }) ≡ Ok zone)
  unfolding stops_at
  last-number per index zero all = all.0
  last-number per index (suc level) all = by_case (λ here. last-number per index level here) (begins per index (suc level)) refl
    where
      by_case : (AreNumbers number (stops_at per index level) → (zone : ℕ) × (number (record { index = index; level = 0 }) ≡ Ok zone)) → (begun : Bool) → begins per index (suc level) ≡ begun → (zone : ℕ) × (number (record { index = index; level = 0 }) ≡ Ok zone)
      by_case lower true is = let here = rw is at all in lower here.1
      by_case lower false is = let here = rw is at all in lower here

  block-number : (per first count index : ℕ) → AreNumbers number (stops_from per first count) → first ≤ index → index < first + count
      → (zone : ℕ) × (number (record { index = index; level = 0 }) ≡ Ok zone)
  unfolding stops_from
  block-number per first zero index all from below = absurd (omega (arith, from, below))
  block-number per first (suc count) index all from below = by_case (λ behind low high. block-number per (first + 1) count index behind low high) (first == index) refl
    where
      by_case : (AreNumbers number (stops_from per (first + 1) count) → first + 1 ≤ index → index < first + 1 + count → (zone : ℕ) × (number (record { index = index; level = 0 }) ≡ Ok zone)) → (here : Bool) → (first == index) ≡ here → (zone : ℕ) × (number (record { index = index; level = 0 }) ≡ Ok zone)
      by_case later true is =
          let same : first ≡ index = eqb-true first index is in
          subst (λ i. (zone : ℕ) × (number (record { index = i; level = 0 }) ≡ Ok zone)) same
          (last-number per first 3 (numbers-before (stops_at per first 3) (stops_from per (first + 1) count) all))
      by_case later false is =
          let apart : first ≢ index = λ e. let t = eq-eqb first index e in cc in
          later (numbers-behind (stops_at per first 3) (stops_from per (first + 1) count) all) (omega (arith, from, apart)) (omega (arith, below))

one_power : (per : ℕ) → per ^ 0 ≡ 1
one_power per = simp unary_clauses refl

-- the pointer of a block's own stop is that of the block
own_pointer : (per index : ℕ) → stop_pointer per (record { index = index; level = 0 }) ≡ pointer_by per index
unfolding stop_pointer pointer_by branch_of
own_pointer per index = by_seven (nat_lt index 7) refl
  where
    by_third : (third : Bool) → nat_lt index (7 + per + per * per) ≡ third → nat_lt index 7 ≡ false → nat_lt index (7 + per) ≡ false → stop_pointer per (record { index = index; level = 0 }) ≡ pointer_by per index
    by_third true is seven second =
        let place : (index - (7 + per)) / per ^ 0 ≡ index - 7 - per = rw (one_power per) (omega arith) in
        rw (seven, second, is) (ap (pointer_with per 8 2) place)
    by_third false is seven second =
        let place : (index - (7 + per + per * per)) / per ^ 0 ≡ index - 7 - per - per * per = rw (one_power per) (omega arith) in
        rw (seven, second, is) (ap (pointer_with per 9 3) place)

    by_second : (second : Bool) → nat_lt index (7 + per) ≡ second → nat_lt index 7 ≡ false → stop_pointer per (record { index = index; level = 0 }) ≡ pointer_by per index
    by_second true is seven =
        let place : (index - 7) / per ^ 0 ≡ index - 7 = rw (one_power per) (omega arith) in
        rw (seven, is) (ap (pointer_with per 7 1) place)
    by_second false is seven = by_third _ refl seven is

    by_seven : (seven : Bool) → nat_lt index 7 ≡ seven → stop_pointer per (record { index = index; level = 0 }) ≡ pointer_by per index
    by_seven true is =
        let place : (index - index) / per ^ 0 ≡ 0 = rw (one_power per) (omega arith) in
        rw is (ap (pointer_with per index 0) place)
    by_seven false is = by_second _ refl is

-- each block is given
pub blocks_given : (super : Super) (parts : Parts) (inode : Inode) → NoRefusal (visits super parts inode) → (index : ℕ) → index < reach super.kind
    → (zone : ℕ) × (zone_at super parts inode index ≡ Ok zone)
unfolding visits zone_at
blocks_given super parts inode none index below =
    let all = are_numbers (stop_number super parts inode) (stops_from (numbers_in_zone super.kind) 0 (reach super.kind)) none in
    let own = block-number (stop_number super parts inode) (numbers_in_zone super.kind) 0 (reach super.kind) index all (omega arith) (omega (arith, below)) in
    (own.0, ap (at_pointer super parts inode) (sym (own_pointer (numbers_in_zone super.kind) index)) ∙ own.1)
