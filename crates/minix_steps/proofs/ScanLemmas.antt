-- What the bits of a sector say of numbers.
use Rattle.std.proofs.Common.{◌≡◌, ◌≤◌, ◌<◌, ◌+◌, ◌*◌, ◌-◌, ◌/◌, ℕ, true, false, List, get_or, arith, ⊎_elim}
use Rattle.std.proofs.lemmas.Bool.{cases_lt}
use Rattle.lilo_model.specs.MinixParts.{bit}
use Rattle.minix_steps.specs.Free.{is_free_in}
use Rattle.minix_steps.proofs.BitLemmas.{full_byte}

set_not_free : (bytes : List ℕ) (base n : ℕ) (avoid : List ℕ) → bit bytes (n - base) ≡ true → is_free_in bytes base avoid n ≡ false
unfolding is_free_in
set_not_free bytes base n avoid set = rw set

-- no number of a full byte is free
pub skip_byte : (bytes : List ℕ) (base at k : ℕ) (avoid : List ℕ) → get_or bytes (k / 8) 0 ≡ 255
    → ((m : ℕ) → at ≤ m → m < base + k → is_free_in bytes base avoid m ≡ false)
    → (m : ℕ) → at ≤ m → m < base + (k / 8 + 1) * 8 → is_free_in bytes base avoid m ≡ false
skip_byte bytes base at k avoid full before m from below = ⊎_elim
    (λ lower. before m from lower)
    (λ here. set_not_free bytes base m avoid (full_byte bytes k (m - base) full (omega arith)))
    (cases_lt m (base + k))
