-- Numbers that are kept up to a limit, and those that name video modes.
use Rattle.std.proofs.Common.{◌≡◌, ℕ, ◌+◌, ◌*◌, ◌≤◌, ◌<◌, Bool, true, false, List, length, take, get_or, min, refl, arith}
use Rattle.std.specs.Prelude.{Option, None, Some, nat_lt, nat_le, if◌then◌else◌}
use Rattle.std.specs.Option.{option_and_then}
use Rattle.std.specs.List.{list_all}
use Rattle.std.specs.Char.{is_digit, digit_value}
use Rattle.std.proofs.lemmas.List.Folds.{list_all_more}
use Rattle.std.proofs.Math.Nat.{mul-le-mul_right}
use Rattle.std.proofs.lemmas.Bool.Decides.{nat_tests}
use Rattle.lilo_model.specs.Bytes.{is_between}
use Rattle.lilo_model.specs.VideoMode.{written_number, mode_number}
use Rattle.lilo_model.specs.ConfValues.{number_between}

-- one more digit
pub digits_more : (radix : ℕ) (text : List ℕ) (index : ℕ) → index < length text
    → list_all (λ c. is_digit c radix) (take index text) ≡ true → digit_value (get_or text index 0) < radix
    → list_all (λ c. is_digit c radix) (take (index + 1) text) ≡ true
digits_more radix text index within before digit =
    let is : nat_lt (digit_value (get_or text index 0)) radix ≡ true = grind (arith, nat_tests) in
    rw (list_all_more (λ c. is_digit c radix) text index 0 within, before) is

-- a number with one more digit, where what comes before it is kept up to a limit
pub capped_more : (v r d n : ℕ) → 1 ≤ r → n ≡ min 65536 v → min (n * r + d) 65536 ≡ min 65536 (v * r + d)
capped_more v r d n some is = by (nat_le v 65536) refl
  where
    by : (small : Bool) → nat_le v 65536 ≡ small → min (n * r + d) 65536 ≡ min 65536 (v * r + d)
    by true e =
        let below : v ≤ 65536 = grind (arith, nat_tests) in
        let same : n ≡ v = omega arith in
        rw same (omega arith)
    by false e =
        let above : 65536 ≤ v = grind (arith, nat_tests) in
        let same : n ≡ 65536 = omega arith in
        let large : 65536 * r ≤ v * r = mul-le-mul_right r above in
        rw same (omega arith)

-- a number of a video mode is one up to 65,535
pub video_number : (text : List ℕ) → number_between 0 65535 text ≡ mode_number (written_number text)
unfolding number_between
video_number text = by (written_number text)
  where
    by : (number : Option ℕ) → option_and_then (λ n. if is_between 0 65535 n then Some n else None) number ≡ mode_number number
    by None = refl
    by (Some n) = let low : nat_le 0 n ≡ true = grind (arith, nat_tests) in rw low refl
