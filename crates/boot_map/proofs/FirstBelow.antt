-- The least number below another that passes a test.
use Rattle.std.proofs.Common.{◌≡◌, ◌<◌, ◌≤◌, ℕ, zero, suc, ◌+◌, Bool, true, false, refl, subst, add-one, arith, inl, inr}
use Rattle.std.specs.Prelude.{Some, None}
use Rattle.std.proofs.Math.Nat.{eq-or-lt_of_le}
use Rattle.lilo_model.specs.Table.{first_below}

-- none passes below the next number where none did, and the last doesn't
pub first_below-none :
    (test : ℕ → Bool) (n : ℕ) → first_below test n ≡ None → test n ≡ false → first_below test (n + 1) ≡ None
first_below-none test n none fails = rw (add-one, none, fails) refl

-- the first stays the first among more numbers
pub first_below-later :
    (test : ℕ → Bool) (found n k : ℕ) → first_below test n ≡ Some found → n ≤ k → first_below test k ≡ Some found
first_below-later test found n zero is_found below =
    let none : n ≡ zero = omega arith in subst (λ j. first_below test j ≡ Some found) none is_found
first_below-later test found n (suc k) is_found below =
    elim (eq-or-lt_of_le below) [
      | inl same ↦ subst (λ j. first_below test j ≡ Some found) same is_found
      | inr less ↦ let before = first_below-later test found n k is_found (omega arith) in rw before refl
    ]

-- a number that passes is the first where none below it does
pub first_below-found :
    (test : ℕ → Bool) (n k : ℕ) → first_below test n ≡ None → test n ≡ true → n < k → first_below test k ≡ Some n
first_below-found test n k none passes below =
    let here : first_below test (suc n) ≡ Some n = rw (none, passes) refl in
    first_below-later test n (suc n) k here (omega arith)
