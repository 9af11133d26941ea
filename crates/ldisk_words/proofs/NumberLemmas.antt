-- Numbers that decimal digits write.
use Rattle.std.proofs.Common.{◌≡◌, ℕ, ◌≤◌, Bool, true, false, List, [], ◌∷◌, length, Ok, Err, refl, sym, ◌∙◌, ap, arith}
use Rattle.std.specs.Prelude.{Option, None, Some, Result, nat_le, if◌then◌else◌, ◌&&◌}
use Rattle.std.specs.Option.{option_and_then}
use Rattle.std.specs.Result.{result_ok}
use Rattle.std.specs.List.{list_all}
use Rattle.std.specs.Char.{is_digit}
use Rattle.std.specs.Str.Parse.{AllDigits, digits_value, without_leading_plus, ParsesUnsigned}
use Rattle.std.proofs.lemmas.Str.Parse.{without_leading_plus_none, digit_at}
use Rattle.std.proofs.lemmas.Bool.Decides.{nat_tests}
use Rattle.lilo_model.specs.VideoMode.{numeral_value}
use Rattle.std.proofs.lemmas.Bool.{le-leb, leb-true}
use Rattle.std.proofs.lemmas.Option.{same_Some}
use Rattle.ldisk_model.specs.Arguments.{IsWritten, IsDecimal, within, decimal_at, type_at}

digits_by : (radix c : ℕ) (text : List ℕ) (digit : Bool) → is_digit c radix ≡ digit
    → (list_all (λ c. is_digit c radix) text ≡ true → AllDigits radix text)
    → list_all (λ c. is_digit c radix) (c ∷ text) ≡ true → AllDigits radix (c ∷ text)
digits_by radix c text true e others is = (grind (arith, nat_tests), others (rw e at is))
digits_by radix c text false e others is = absurd (let none = rw e at is in cc)

pub all_digits : (radix : ℕ) (text : List ℕ) → list_all (λ c. is_digit c radix) text ≡ true → AllDigits radix text
all_digits radix [] is = tt
all_digits radix (c ∷ text) is = digits_by radix c text (is_digit c radix) refl (all_digits radix text) is

pub digits_all : (radix : ℕ) (text : List ℕ) → AllDigits radix text → list_all (λ c. is_digit c radix) text ≡ true
digits_all radix [] is = refl
digits_all radix (c ∷ text) is =
    let e : is_digit c radix ≡ true = let below = is.0 in grind (arith, nat_tests) in
    rw (e, digits_all radix text is.1) refl

-- a narrower range
pub decimal_narrow : (low high : ℕ) (text : List ℕ) → high ≤ 4294967295
    → decimal_at low high text ≡ option_and_then (within low high) (decimal_at 0 4294967295 text)
unfolding decimal_at
decimal_narrow low high text most = by (numeral_value 10 text)
  where
    wide : (n : ℕ) (fits : Bool) → nat_le n 4294967295 ≡ fits → within low high n ≡ option_and_then (within low high) (within 0 4294967295 n)
    wide n true e = let low_end : nat_le 0 n ≡ true = grind (arith, nat_tests) in rw (low_end, e) refl
    wide n false e =
        let above : nat_le n high ≡ false = grind (arith, nat_tests) in
        let low_end : nat_le 0 n ≡ true = grind (arith, nat_tests) in
        rw (low_end, e, above) (by_low (nat_le low n))
      where
        by_low : (is : Bool) → (if is && false then Some n else None) ≡ None
        by_low true = refl
        by_low false = refl

    by : (number : Option ℕ) → option_and_then (within low high) number ≡ option_and_then (within low high) (option_and_then (within 0 4294967295) number)
    by None = refl
    by (Some n) = wide n (nat_le n 4294967295) refl

-- ---- what is parsed

nothing : (low high : ℕ) (text : List ℕ) → list_all (λ c. is_digit c 10) text ≡ false → decimal_at low high text ≡ None
unfolding decimal_at
nothing low high [] is = refl
nothing low high (c ∷ text) is = rw is refl

pub decimal_none : (low high : ℕ) (text bytes : List ℕ) → bytes ≡ text → false ≡ list_all (λ c. is_digit c 10) bytes → None ≡ decimal_at low high text
decimal_none low high text bytes same is = sym (nothing low high text (ap (list_all (λ c. is_digit c 10)) (sym same) ∙ sym is))

-- digits begin with no plus
plain : (text : List ℕ) → AllDigits 10 text → without_leading_plus text ≡ text
plain [] all = refl
plain (c ∷ text) all =
    without_leading_plus_none (c ∷ text) (λ plus. let range = digit_at (c ∷ text) 0 all (omega arith) in omega (arith, range, plus))

module _ {E : Type 0} where
  read : (text : List ℕ) (result : Result ℕ E) → AllDigits 10 text → list_all (λ c. is_digit c 10) text ≡ true
      → ParsesUnsigned 32 10 text result → result_ok result ≡ decimal_at 0 4294967295 text
  unfolding decimal_at
  read [] (Ok number) all are parses = absurd (omega (arith, parses.0.0.0))
  read [] (Err fault) all are parses = refl
  read (c ∷ text) (Ok number) all are parses =
      let p = rw (plain (c ∷ text) all) at parses in
      let fits : nat_le (digits_value 10 (c ∷ text)) 4294967295 ≡ true = let below = p.0.1 in grind (arith, nat_tests) in
      let low_end : nat_le 0 (digits_value 10 (c ∷ text)) ≡ true = grind (arith, nat_tests) in
      rw (are, low_end, fits, p.1) refl
  read (c ∷ text) (Err fault) all are parses = by (nat_le (digits_value 10 (c ∷ text)) 4294967295) refl
    where
      by : (fits : Bool) → nat_le (digits_value 10 (c ∷ text)) 4294967295 ≡ fits → None ≡ decimal_at 0 4294967295 (c ∷ text)
      by true e =
          let p = rw (plain (c ∷ text) all) at parses in
          absurd (p ((omega arith, all), grind (arith, nat_tests)))
      by false e = let low_end : nat_le 0 (digits_value 10 (c ∷ text)) ≡ true = grind (arith, nat_tests) in rw (are, low_end, e) refl

  pub decimal_parsed : (text bytes : List ℕ) (result : Result ℕ E) (answer : Option ℕ) → bytes ≡ text
      → true ≡ list_all (λ c. is_digit c 10) bytes → ParsesUnsigned 32 10 text result → answer ≡ result_ok result
      → answer ≡ decimal_at 0 4294967295 text
  decimal_parsed text bytes result answer same is parses answered =
      let are : list_all (λ c. is_digit c 10) text ≡ true = ap (list_all (λ c. is_digit c 10)) (sym same) ∙ sym is in
      answered ∙ read text result (all_digits 10 text are) are parses

-- ---- the grammar

pub numeral_read : (radix : ℕ) (digits : List ℕ) (number : ℕ) → numeral_value radix digits ≡ Some number → IsWritten radix digits number
numeral_read radix [] number is = absurd cc
numeral_read radix (c ∷ digits) number is = by (list_all (λ c. is_digit c radix) (c ∷ digits)) refl
  where
    by : (all : Bool) → list_all (λ c. is_digit c radix) (c ∷ digits) ≡ all → IsWritten radix (c ∷ digits) number
    by true e = record { numeral = (omega arith, all_digits radix (c ∷ digits) e); value = same_Some _ _ (rw e at is) }
    by false e = absurd (let none = rw e at is in cc)

pub numeral_written : (radix : ℕ) (digits : List ℕ) (number : ℕ) → IsWritten radix digits number → numeral_value radix digits ≡ Some number
numeral_written radix [] number is = absurd (omega (arith, is.numeral.0))
numeral_written radix (c ∷ digits) number is = rw (digits_all radix (c ∷ digits) is.numeral.1, is.value) refl

pub decimal_read : (low high : ℕ) (digits : List ℕ) (number : ℕ) → decimal_at low high digits ≡ Some number → IsDecimal low high digits number
unfolding decimal_at
decimal_read low high digits number is = by (numeral_value 10 digits) refl is
  where
    inside : (n : ℕ) (one two : Bool) → nat_le low n ≡ one → nat_le n high ≡ two → numeral_value 10 digits ≡ Some n → within low high n ≡ Some number → IsDecimal low high digits number
    inside n true true a b e found =
        let same : n ≡ number = same_Some n number (rw (a, b) at found) in
        record { written = numeral_read 10 digits number (e ∙ ap (λ k. Some k) same); from = leb-true low number (ap (nat_le low) (sym same) ∙ a); to = leb-true number high (ap (λ k. nat_le k high) (sym same) ∙ b) }
    inside n false two a b e found = absurd (let none = rw a at found in cc)
    inside n true false a b e found = absurd (let none = rw (a, b) at found in cc)

    by : (value : Option ℕ) → numeral_value 10 digits ≡ value → option_and_then (within low high) value ≡ Some number → IsDecimal low high digits number
    by None e found = absurd cc
    by (Some n) e found = inside n (nat_le low n) (nat_le n high) refl refl e found

pub decimal_written : (low high : ℕ) (digits : List ℕ) (number : ℕ) → IsDecimal low high digits number → decimal_at low high digits ≡ Some number
unfolding decimal_at
decimal_written low high digits number is =
    rw (numeral_written 10 digits number is.written, le-leb low number is.from, le-leb number high is.to) refl

pub type_read : (digits : List ℕ) (number : ℕ) → type_at digits ≡ Some number → (length digits ≡ 2) × IsWritten 16 digits number
unfolding type_at
type_read [] number is = absurd cc
type_read (a ∷ []) number is = absurd cc
type_read (a ∷ (b ∷ [])) number is = (refl, numeral_read 16 (a ∷ (b ∷ [])) number is)
type_read (a ∷ (b ∷ (c ∷ digits))) number is = absurd cc

pub type_written : (digits : List ℕ) (number : ℕ) → length digits ≡ 2 → IsWritten 16 digits number → type_at digits ≡ Some number
unfolding type_at
type_written [] number two is = absurd (omega (arith, two))
type_written (a ∷ []) number two is = absurd (omega (arith, two))
type_written (a ∷ (b ∷ [])) number two is = numeral_written 16 (a ∷ (b ∷ [])) number is
type_written (a ∷ (b ∷ (c ∷ digits))) number two is = absurd (omega (arith, two))
