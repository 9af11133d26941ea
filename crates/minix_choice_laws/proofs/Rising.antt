-- The numbers of a range that pass a test: they rise.
use Rattle.std.proofs.Common.{◌≡◌, ◌≤◌, ◌<◌, ◌+◌, ℕ, zero, suc, Bool, true, false, List, [], ◌∷◌, length, take, filter, find, Some, refl, sym, ap, ◌∙◌, arith}
use Rattle.std.specs.Prelude.{slice_index}
use Rattle.std.specs.List.{range_with_len}
use Rattle.minix_choice_laws.specs.Chosen.{AreRising}

-- numbers from one on and below another, each greater than the one before, that pass a test
abbrev pub Rises : (ℕ → Bool) → ℕ → ℕ → List ℕ → Type 0
Rises test low high [] = Unit {0}
Rises test low high (n ∷ ns) = (low ≤ n) × ((n < high) × ((test n ≡ true) × Rises test (n + 1) high ns))

rises_from : (test : ℕ → Bool) (low low' high : ℕ) (ns : List ℕ) → low' ≤ low → Rises test low high ns → Rises test low' high ns
rises_from test low low' high [] le rises = tt
rises_from test low low' high (n ∷ ns) le rises = (omega (arith, le, rises.0), rises.1)

pub rises_range : (test : ℕ → Bool) (low count high : ℕ) → low + count ≤ high → Rises test low high (filter test (range_with_len low count))
rises_range test low zero high fits = tt
rises_range test low (suc count) high fits = by (rises_range test (low + 1) count high (omega (arith, fits))) (test low) refl
  where
    by : Rises test (low + 1) high (filter test (range_with_len (low + 1) count)) → (passes : Bool) → test low ≡ passes
        → Rises test low high (filter test (range_with_len low (suc count)))
    by rest true is = rw is (omega arith, (omega (arith, fits), (is, rest)))
    by rest false is = rw is (rises_from test (low + 1) low high (filter test (range_with_len (low + 1) count)) (omega arith) rest)

pub rises_take : (test : ℕ → Bool) (low high : ℕ) (ns : List ℕ) (n : ℕ) → Rises test low high ns → Rises test low high (take n ns)
rises_take test low high ns zero rises = tt
rises_take test low high [] (suc n) rises = tt
rises_take test low high (m ∷ ns) (suc n) rises = (rises.0, (rises.1.0, (rises.1.1.0, rises_take test (m + 1) high ns n rises.1.1.1)))

-- one of them
pub record Passes (test : ℕ → Bool) (low high n : ℕ) : Type 0 where
  pub from : low ≤ n
  pub below : n < high
  pub passes : test n ≡ true

pub rises_at : (test : ℕ → Bool) (low high : ℕ) (ns : List ℕ) (i : ℕ) → Rises test low high ns → i < length ns → Passes test low high (slice_index ns i)
rises_at test low high [] i rises inside = absurd (omega (arith, inside))
rises_at test low high (n ∷ ns) zero rises inside = record { from = rises.0; below = rises.1.0; passes = rises.1.1.0 }
rises_at test low high (n ∷ ns) (suc i) rises inside =
    let later = rises_at test (n + 1) high ns i rises.1.1.1 (omega (arith, inside)) in
    record { from = omega (arith, later.from, rises.0); below = later.below; passes = later.passes }

pub rises_order : (test : ℕ → Bool) (low high : ℕ) (ns : List ℕ) (i j : ℕ) → Rises test low high ns → i < j → j < length ns → slice_index ns i < slice_index ns j
rises_order test low high [] i j rises less inside = absurd (omega (arith, inside))
rises_order test low high (n ∷ ns) zero zero rises less inside = absurd (omega (arith, less))
rises_order test low high (n ∷ ns) zero (suc j) rises less inside =
    let later = rises_at test (n + 1) high ns j rises.1.1.1 (omega (arith, inside)) in
    omega (arith, later.from)
rises_order test low high (n ∷ ns) (suc i) zero rises less inside = absurd (omega (arith, less))
rises_order test low high (n ∷ ns) (suc i) (suc j) rises less inside = rises_order test (n + 1) high ns i j rises.1.1.1 (omega (arith, less)) (omega (arith, inside))

pub are_rising : (test : ℕ → Bool) (low high : ℕ) (ns : List ℕ) → 0 < low → Rises test low high ns → AreRising ns
are_rising test low high ns some rises = record {
  some = λ i inside none. let one = rises_at test low high ns i rises inside in omega (arith, one.from, some, none);
  rise = λ i j less inside. rises_order test low high ns i j rises less inside;
}

-- the first one
pub find_range : (test : ℕ → Bool) (low count found : ℕ) → find test (range_with_len low count) ≡ Some found → Passes test low (low + count) found
find_range test low zero found is = cc
find_range test low (suc count) found is = by (find_range test (low + 1) count found) (test low) refl
  where
    by : (find test (range_with_len (low + 1) count) ≡ Some found → Passes test (low + 1) (low + 1 + count) found)
        → (passes : Bool) → test low ≡ passes → Passes test low (low + suc count) found
    by rest true passes =
        let e = rw passes at is in
        let here : low ≡ found = cc in
        record { from = omega (arith, here); below = omega (arith, here); passes = ap test (sym here) ∙ passes }
    by rest false passes =
        let e = rw passes at is in
        let later = rest e in
        record { from = omega (arith, later.from); below = omega (arith, later.below); passes = later.passes }
