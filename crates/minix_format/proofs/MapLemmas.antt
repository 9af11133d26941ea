-- The bits of a bitmap's sector.
use Rattle.std.proofs.Common.{◌≡◌, ◌≢◌, ◌<◌, ◌≤◌, ℕ, zero, suc, ◌+◌, ◌-◌, ◌*◌, ◌/◌, ◌%◌, ◌^◌, ◌==◌, min, nat_le, nat_lt, Bool, true, false, ◌&&◌, ◌||◌, if◌then◌else◌, List, length, get_or, map, refl, sym, ◌∙◌, ap, subst, arith, ⊎_elim}
use Rattle.std.specs.Prelude.{bit_or}
use Rattle.std.specs.List.{range_with_len}
use Rattle.std.proofs.lemmas.Bool.{cases_lt, cases_eq}
use Rattle.std.proofs.lemmas.Bool.Decides.{nat_tests}
use Rattle.std.proofs.lemmas.List.{ext_get_or}
use Rattle.std.proofs.lemmas.List.FromFn.{get_or-map-range_with_len, length-map-range_with_len}
use Rattle.lilo_model.specs.MinixParts.{bit}
use Rattle.ldisk_model.specs.MinixFormat.{map_byte, map_sector}
use Rattle.minix_format.specs.Laws.{MapLaw}

-- ---- one byte, by what it may be

-- whether all numbers below one pass
abbrev every : ℕ → (ℕ → Bool) → Bool
every zero pass = true
every (suc n) pass = pass n && every n pass

both : (a b : Bool) → (a && b) ≡ true → (a ≡ true) × (b ≡ true)
both true true is = (refl, refl)
both true false is = (refl, is)
both false b is = cc

every-at : (n k : ℕ) (pass : ℕ → Bool) → every n pass ≡ true → k < n → pass k ≡ true
every-at zero k pass is below = absurd (omega (arith, below))
every-at (suc n) k pass is below =
    let parts : (pass n ≡ true) × (every n pass ≡ true) = both (pass n) (every n pass) is in
    ⊎_elim
    (λ less. every-at n k pass parts.1 less)
    (λ ge. let same : n ≡ k = omega (arith, ge, below) in subst (λ (m : ℕ). pass m ≡ true) same parts.0)
    (cases_lt k n)

same : Bool → Bool → Bool
same true other = other
same false true = false
same false false = true

same-is : (one other : Bool) → same one other ≡ true → one ≡ other
unfolding same
same-is true true is = refl
same-is true false is = cc
same-is false true is = cc
same-is false false is = refl

-- a byte with the two lowest bits or none, and with those from one on
abbrev byte_by : Bool → ℕ → ℕ
byte_by low from = bit_or (if low then 3 else 0) (256 - 2 ^ from)

abbrev bit_by : Bool → ℕ → ℕ → Bool
bit_by low from t = low && nat_le t 1 || nat_le from t

computed : (low : Bool) → every 9 (λ from. every 8 (λ t. same (byte_by low from / 2 ^ t % 2 == 1) (bit_by low from t))) ≡ true
unfolding same
computed true = refl
computed false = refl

bit_of_byte : (low : Bool) (from t : ℕ) → from ≤ 8 → t < 8 → (byte_by low from / 2 ^ t % 2 == 1) ≡ bit_by low from t
bit_of_byte low from t few below =
    same-is _ _
    (every-at 8 t (λ k. same (byte_by low from / 2 ^ k % 2 == 1) (bit_by low from k))
    (every-at 9 from (λ m. every 8 (λ k. same (byte_by low m / 2 ^ k % 2 == 1) (bit_by low m k))) (computed low) (omega (arith, few))) below)

-- by the number of the byte's first bit
low_bits : (number t : ℕ) → number % 8 ≡ 0 → t < 8 → ((number == 0) && nat_le t 1) ≡ nat_le (number + t) 1
low_bits number t whole below = ⊎_elim
    (λ (zero_is : number ≡ 0). grind (arith, nat_tests))
    (λ (other : number ≢ 0). let high : 8 ≤ number = omega (arith, whole, other) in grind (arith, nat_tests))
    (cases_eq number 0)

high_bits : (last number t : ℕ) → t < 8 → nat_le (min 8 (last + 1 - number)) t ≡ nat_lt last (number + t)
high_bits last number t below = ⊎_elim
    (λ (past : last < number + t). let few : min 8 (last + 1 - number) ≤ t = omega (arith, past) in grind (arith, nat_tests))
    (λ (within : number + t ≤ last). let more : t < min 8 (last + 1 - number) = omega (arith, within, below) in grind (arith, nat_tests))
    (cases_lt last (number + t))

bit_of_number : (last number t : ℕ) → number % 8 ≡ 0 → t < 8
    → (map_byte last number / 2 ^ t % 2 == 1) ≡ (nat_le (number + t) 1 || nat_lt last (number + t))
unfolding map_byte
bit_of_number last number t whole below =
    bit_of_byte (number == 0) (min 8 (last + 1 - number)) t (omega arith) below
    ∙ ap (λ test. test || nat_le (min 8 (last + 1 - number)) t) (low_bits number t whole below)
    ∙ ap (λ test. nat_le (number + t) 1 || test) (high_bits last number t below)

-- ---- a sector

pub length-map_sector : (last sector : ℕ) → length (map_sector last sector) ≡ 512
unfolding map_sector
length-map_sector last sector = length-map-range_with_len (λ at. map_byte last (4096 * sector + 8 * at)) 0 512

-- bytes that are each those of a sector are the sector
pub sector-by_bytes : (bytes : List ℕ) (last sector : ℕ) → length bytes ≡ 512
    → ((k : ℕ) → k < 512 → get_or bytes k 0 ≡ map_byte last (4096 * sector + 8 * k)) → bytes ≡ map_sector last sector
unfolding map_sector
sector-by_bytes bytes last sector long each =
    let f : ℕ → ℕ = λ k. map_byte last (4096 * sector + 8 * k) in
    ext_get_or 0 bytes (map f (range_with_len 0 512)) (long ∙ sym (length-map-range_with_len f 0 512))
    (λ k below. each k (omega (arith, long, below)) ∙ sym (get_or-map-range_with_len f 0 512 k k 0 (omega (arith, long, below)) (omega arith)))

pub map_law : MapLaw
unfolding map_sector bit
map_law last sector at below =
    let number : ℕ = 4096 * sector + 8 * (at / 8) in
    let is : get_or (map (λ k. map_byte last (4096 * sector + 8 * k)) (range_with_len 0 512)) (at / 8) 0 ≡ map_byte last number =
    get_or-map-range_with_len (λ k. map_byte last (4096 * sector + 8 * k)) 0 512 (at / 8) (at / 8) 0 (omega (arith, below)) (omega arith) in
    let joined : number + at % 8 ≡ 4096 * sector + at = omega arith in
    ap (λ byte. byte / 2 ^ (at % 8) % 2 == 1) is
    ∙ bit_of_number last number (at % 8) (omega arith) (omega arith)
    ∙ ap (λ n. nat_le n 1 || nat_lt last n) joined
