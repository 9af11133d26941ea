-- Bits of bytes of which one is set or cleared.
use Rattle.std.proofs.Common.{◌≡◌, ◌≢◌, ℕ, ◌-◌, ◌/◌, ◌%◌, ◌^◌, ◌<◌, ◌==◌, Bool, true, false, List, length, refl, ◌∙◌, ap, arith, eq-eqb, get_or-set_same, get_or-set_other}
use Rattle.std.specs.Prelude.{slice_index}
use Rattle.std.specs.Int.{w8, bit_at, bit_not}
use Rattle.std.proofs.lemmas.Bool.{eqb-true}
use Rattle.std.proofs.lemmas.List.{length-set}
use Rattle.std.proofs.Math.Pow.{pow-lt}
use Rattle.std.proofs.lemmas.Nat.Bits.{bit_at_and, bit_at_or, bit_at-pow_other, bit_at_not, bit_at-lt}
use Rattle.lilo_model.specs.MinixParts.{bit, byte_with, with_bit}

pub length-with_bit : (bytes : List ℕ) (at : ℕ) (value : Bool) → length (with_bit bytes at value) ≡ length bytes
unfolding with_bit
length-with_bit bytes at value = length-set bytes (at / 8) (byte_with (slice_index bytes (at / 8)) (at % 8) value)

-- ---- one byte

byte-set : (byte at other : ℕ) → bit_at byte other ≡ 1 → bit_at (byte_with byte at true) other ≡ 1
byte-set byte at other is =
    let low : bit_at (2 ^ at) other < 2 = bit_at-lt (2 ^ at) other in
    bit_at_or byte (2 ^ at) other ∙ omega (arith, is, low)

power-small : (at : ℕ) → at < 8 → 2 ^ at < 256
power-small at below = pow-lt below

byte-clear : (byte at other : ℕ) → at < 8 → other < 8 → other ≢ at → bit_at byte other ≡ 1 → bit_at (byte_with byte at false) other ≡ 1
byte-clear byte at other small small' apart is =
    let none : bit_at (2 ^ at) other ≡ 0 = bit_at-pow_other at other apart in
    let kept : bit_at (bit_not w8 (2 ^ at)) other ≡ 1 - bit_at (2 ^ at) other = bit_at_not w8 (2 ^ at) other (power-small at small) small' in
    bit_at_and byte (255 - 2 ^ at) other ∙ omega (arith, is, none, kept)

-- ---- bytes

module _ (bytes : List ℕ) (at : ℕ) (inside : at / 8 < length bytes) where
  byte-same : (value : Bool) (other : ℕ) → other / 8 ≡ at / 8 → slice_index (with_bit bytes at value) (other / 8) ≡ byte_with (slice_index bytes (other / 8)) (at % 8) value
  unfolding with_bit
  byte-same value other same = rw same (get_or-set_same bytes (at / 8) (byte_with (slice_index bytes (at / 8)) (at % 8) value) 0 inside)

  byte-other : (value : Bool) (other : ℕ) → other / 8 ≢ at / 8 → slice_index (with_bit bytes at value) (other / 8) ≡ slice_index bytes (other / 8)
  unfolding with_bit
  byte-other value other apart = get_or-set_other bytes (at / 8) (other / 8) (byte_with (slice_index bytes (at / 8)) (at % 8) value) 0 apart

  set-by : (other : ℕ) → bit_at (slice_index bytes (other / 8)) (other % 8) ≡ 1 → (here : Bool) → (other / 8 == at / 8) ≡ here → bit_at (slice_index (with_bit bytes at true) (other / 8)) (other % 8) ≡ 1
  set-by other is true here =
      ap (λ byte. bit_at byte (other % 8)) (byte-same true other (eqb-true (other / 8) (at / 8) here))
      ∙ byte-set (slice_index bytes (other / 8)) (at % 8) (other % 8) is
  set-by other is false here =
      ap (λ byte. bit_at byte (other % 8)) (byte-other true other (λ e. let t = eq-eqb (other / 8) (at / 8) e in cc)) ∙ is

  clear-by : (other : ℕ) → other ≢ at → bit_at (slice_index bytes (other / 8)) (other % 8) ≡ 1 → (here : Bool) → (other / 8 == at / 8) ≡ here → bit_at (slice_index (with_bit bytes at false) (other / 8)) (other % 8) ≡ 1
  clear-by other apart is true here =
      let same : other / 8 ≡ at / 8 = eqb-true (other / 8) (at / 8) here in
      ap (λ byte. bit_at byte (other % 8)) (byte-same false other same)
      ∙ byte-clear (slice_index bytes (other / 8)) (at % 8) (other % 8) (omega arith) (omega arith) (λ e. apart (omega (arith, e, same))) is
  clear-by other apart is false here =
      ap (λ byte. bit_at byte (other % 8)) (byte-other false other (λ e. let t = eq-eqb (other / 8) (at / 8) e in cc)) ∙ is

  -- a bit that is set stays set where another is set
  pub bit-set : (other : ℕ) → bit bytes other ≡ true → bit (with_bit bytes at true) other ≡ true
  unfolding bit
  bit-set other is = eq-eqb (bit_at (slice_index (with_bit bytes at true) (other / 8)) (other % 8)) 1 (set-by other (eqb-true (bit_at (slice_index bytes (other / 8)) (other % 8)) 1 is) _ refl)

  -- or cleared
  pub bit-clear : (other : ℕ) → other ≢ at → bit bytes other ≡ true → bit (with_bit bytes at false) other ≡ true
  unfolding bit
  bit-clear other apart is = eq-eqb (bit_at (slice_index (with_bit bytes at false) (other / 8)) (other % 8)) 1 (clear-by other apart (eqb-true (bit_at (slice_index bytes (other / 8)) (other % 8)) 1 is) _ refl)
