-- Bits of bytes, and what setting or clearing one changes.
use Rattle.std.proofs.Common.{◌≡◌, ◌≢◌, ◌<◌, ◌*◌, ◌-◌, ◌/◌, ◌%◌, ◌^◌, ◌==◌, ℕ, Bool, true, false, List, length, get_or, set, ap, sym, ◌∙◌, arith, ⊎_elim}
use Rattle.std.specs.Prelude.{bit_and, bit_or}
use Rattle.std.specs.Int.{bit_at, w8}
use Rattle.std.proofs.lemmas.Nat.{one_shl}
use Rattle.std.proofs.lemmas.Nat.Bits.{bit_at_set_same, bit_at_set_other, bit_at_clear_same, bit_at_clear_other, bit_at_ones}
use Rattle.std.proofs.lemmas.List.{length-set, get_or-set_same, get_or-set_other}
use Rattle.std.proofs.lemmas.Bool.{cases_eq}
use Rattle.lilo_model.specs.MinixParts.{bit, byte_with, with_bit}
use Rattle.minix_steps.specs.BitLaws.{OneBit}

-- a bit as a test
abbrev bit_of : ℕ → ℕ → Bool
bit_of byte k = bit_at byte k == 1

same_in_byte : (byte k : ℕ) (value : Bool) → k < 8 → bit_of (byte_with byte k value) k ≡ value
same_in_byte byte k true within =
    let shifted : 1 * 2 ^ k % 2 ^ 8 ≡ 2 ^ k = one_shl k 8 within in
    let is : bit_at (bit_or byte (2 ^ k)) k ≡ 1 = rw shifted at (bit_at_set_same w8 byte k within) in
    rw is
same_in_byte byte k false within =
    let shifted : 1 * 2 ^ k % 2 ^ 8 ≡ 2 ^ k = one_shl k 8 within in
    let is : bit_at (bit_and byte (255 - 2 ^ k)) k ≡ 0 = rw shifted at (bit_at_clear_same w8 byte k within) in
    rw is

other_in_byte : (byte k other : ℕ) (value : Bool) → k < 8 → other < 8 → other ≢ k → bit_of (byte_with byte k value) other ≡ bit_of byte other
other_in_byte byte k other true within inside differ =
    let shifted : 1 * 2 ^ k % 2 ^ 8 ≡ 2 ^ k = one_shl k 8 within in
    let is : bit_at (bit_or byte (2 ^ k)) other ≡ bit_at byte other = rw shifted at (bit_at_set_other w8 byte k within other differ) in
    rw is
other_in_byte byte k other false within inside differ =
    let shifted : 1 * 2 ^ k % 2 ^ 8 ≡ 2 ^ k = one_shl k 8 within in
    let is : bit_at (bit_and byte (255 - 2 ^ k)) other ≡ bit_at byte other = rw shifted at (bit_at_clear_other w8 byte k within other inside differ) in
    rw is

pub length-with_bit : (bytes : List ℕ) (at : ℕ) (value : Bool) → length (with_bit bytes at value) ≡ length bytes
unfolding with_bit
length-with_bit bytes at value = length-set bytes (at / 8) (byte_with (get_or bytes (at / 8) 0) (at % 8) value)

pub bit_here : (bytes : List ℕ) (at : ℕ) (value : Bool) → at < 8 * length bytes → bit (with_bit bytes at value) at ≡ value
unfolding bit with_bit
bit_here bytes at value inside =
    let new : get_or (set bytes (at / 8) (byte_with (get_or bytes (at / 8) 0) (at % 8) value)) (at / 8) 0 ≡ byte_with (get_or bytes (at / 8) 0) (at % 8) value =
    get_or-set_same bytes (at / 8) (byte_with (get_or bytes (at / 8) 0) (at % 8) value) 0 (omega arith) in
    ap (λ byte. bit_of byte (at % 8)) new ∙ same_in_byte (get_or bytes (at / 8) 0) (at % 8) value (omega arith)

pub bit_elsewhere : (bytes : List ℕ) (at other : ℕ) (value : Bool) → at < 8 * length bytes → other ≢ at → bit (with_bit bytes at value) other ≡ bit bytes other
unfolding bit with_bit
bit_elsewhere bytes at other value inside differ = ⊎_elim
    (λ same.
    let new : get_or (set bytes (at / 8) (byte_with (get_or bytes (at / 8) 0) (at % 8) value)) (other / 8) 0 ≡ byte_with (get_or bytes (at / 8) 0) (at % 8) value =
    ap (λ i. get_or (set bytes (at / 8) (byte_with (get_or bytes (at / 8) 0) (at % 8) value)) i 0) same
    ∙ get_or-set_same bytes (at / 8) (byte_with (get_or bytes (at / 8) 0) (at % 8) value) 0 (omega arith) in
    let apart : other % 8 ≢ at % 8 = λ equal. differ (omega arith) in
    ap (λ byte. bit_of byte (other % 8)) new
    ∙ other_in_byte (get_or bytes (at / 8) 0) (at % 8) (other % 8) value (omega arith) (omega arith) apart
    ∙ ap (λ i. bit_of (get_or bytes i 0) (other % 8)) (sym same))
    (λ apart. ap (λ byte. bit_of byte (other % 8)) (get_or-set_other bytes (at / 8) (other / 8) (byte_with (get_or bytes (at / 8) 0) (at % 8) value) 0 apart))
    (cases_eq (other / 8) (at / 8))

pub one_bit : (bytes : List ℕ) (at : ℕ) (value : Bool) → at < 8 * length bytes → OneBit bytes (with_bit bytes at value) at value
one_bit bytes at value inside = record {
  here = bit_here bytes at value inside;
  others = λ other within differ. bit_elsewhere bytes at other value inside differ;
  length_same = length-with_bit bytes at value;
}

-- each bit of a full byte is set
pub full_byte : (bytes : List ℕ) (at k : ℕ) → get_or bytes (at / 8) 0 ≡ 255 → k / 8 ≡ at / 8 → bit bytes k ≡ true
unfolding bit
full_byte bytes at k full same =
    let is : get_or bytes (k / 8) 0 ≡ 255 = ap (λ i. get_or bytes i 0) same ∙ full in
    let set : bit_at 255 (k % 8) ≡ 1 = bit_at_ones 8 (k % 8) (omega arith) in
    ap (λ byte. bit_of byte (k % 8)) is ∙ rw set
