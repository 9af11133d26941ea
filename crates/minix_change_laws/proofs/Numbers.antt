-- The bytes of a number in an indirect zone.
use Rattle.std.proofs.Common.{◌≡◌, ◌≢◌, ℕ, ◌+◌, ◌*◌, ◌<◌, ◌≤◌, ◌^◌, ◌⊎◌, List, length, refl, ◌∙◌, ap, arith, inl, inr, ⊎_elim}
use Rattle.std.specs.Int.{w16, w32, from_le_bytes}
use Rattle.std.proofs.lemmas.Bool.{cases_lt}
use Rattle.std.proofs.lemmas.Nat.{from_le_bytes-to_le_bytes_2, from_le_bytes-to_le_bytes_4}
use Rattle.lilo_model.specs.Bytes.{with_part, number16, number32, bytes16, bytes32}
use Rattle.lilo_model.specs.MinixLayout.{Kind, V1Short, V1Long, V2Short, V2Long, numbers_in_zone, number_size}
use Rattle.lilo_model.specs.MinixParts.{number_in}
use Rattle.minix_change_laws.proofs.Replaced.{part-other}
use Rattle.minix_change_laws.proofs.Blocks.{part-same}
use Rattle.minix_change_laws.specs.Part.{number_bytes, offset_of_number}
use Rattle.minix_change_laws.specs.ZoneBytesLaws.{NumberBytesLaw}

-- two numbers of a zone lie apart
apart-2 : (one other : ℕ) → one ≢ other → (2 * one + 2 ≤ 2 * other) ⊎ (2 * other + 2 ≤ 2 * one)
apart-2 one other apart = ⊎_elim (λ (low : one < other). inl (omega (arith, low))) (λ (high : other ≤ one). inr (omega (arith, high, apart))) (cases_lt one other)

apart-4 : (one other : ℕ) → one ≢ other → (4 * one + 4 ≤ 4 * other) ⊎ (4 * other + 4 ≤ 4 * one)
apart-4 one other apart = ⊎_elim (λ (low : one < other). inl (omega (arith, low))) (λ (high : other ≤ one). inr (omega (arith, high, apart))) (cases_lt one other)

-- numbers of two bytes
module _ (bytes : List ℕ) (index number : ℕ) (long : length bytes ≡ 1024) (low : index < 512) (small : number < 2 ^ 16) where
  fits16 : 2 * index + length (bytes16 number) ≤ length bytes
  fits16 = let two : length (bytes16 number) ≡ 2 = refl in omega (arith, two, long, low)

  here16 : number16 (with_part bytes (2 * index) (bytes16 number)) (2 * index) ≡ number
  unfolding number16
  here16 = ap (from_le_bytes w16) (part-same bytes (2 * index) (bytes16 number) fits16) ∙ from_le_bytes-to_le_bytes_2 number small

  other16 : (other : ℕ) → other < 512 → other ≢ index → number16 (with_part bytes (2 * index) (bytes16 number)) (2 * other) ≡ number16 bytes (2 * other)
  unfolding number16
  other16 other inside apart =
      let two : length (bytes16 number) ≡ 2 = refl in
      ap (from_le_bytes w16) (part-other bytes (2 * index) (bytes16 number) fits16 (2 * other) 2 (omega (arith, long, inside)) (by (apart-2 other index apart)))
    where
      by : (2 * other + 2 ≤ 2 * index) ⊎ (2 * index + 2 ≤ 2 * other) → (2 * other + 2 ≤ 2 * index) ⊎ (2 * index + length (bytes16 number) ≤ 2 * other)
      by (inl first) = inl first
      by (inr last) = inr last

-- and of four
module _ (bytes : List ℕ) (index number : ℕ) (long : length bytes ≡ 1024) (low : index < 256) (small : number < 2 ^ 32) where
  fits32 : 4 * index + length (bytes32 number) ≤ length bytes
  fits32 = let four : length (bytes32 number) ≡ 4 = refl in omega (arith, four, long, low)

  here32 : number32 (with_part bytes (4 * index) (bytes32 number)) (4 * index) ≡ number
  unfolding number32
  here32 = ap (from_le_bytes w32) (part-same bytes (4 * index) (bytes32 number) fits32) ∙ from_le_bytes-to_le_bytes_4 number small

  other32 : (other : ℕ) → other < 256 → other ≢ index → number32 (with_part bytes (4 * index) (bytes32 number)) (4 * other) ≡ number32 bytes (4 * other)
  unfolding number32
  other32 other inside apart =
      ap (from_le_bytes w32) (part-other bytes (4 * index) (bytes32 number) fits32 (4 * other) 4 (omega (arith, long, inside)) (by (apart-4 other index apart)))
    where
      by : (4 * other + 4 ≤ 4 * index) ⊎ (4 * index + 4 ≤ 4 * other) → (4 * other + 4 ≤ 4 * index) ⊎ (4 * index + length (bytes32 number) ≤ 4 * other)
      by (inl first) = inl first
      by (inr last) = inr last

by-kind : (kind : Kind) (bytes : List ℕ) (index number : ℕ) → length bytes ≡ 1024 → index < numbers_in_zone kind → number < 256 ^ number_size kind
    → (number_in kind (with_part bytes (offset_of_number kind index) (number_bytes kind number)) index ≡ number)
    × ((other : ℕ) → other < numbers_in_zone kind → other ≢ index → number_in kind (with_part bytes (offset_of_number kind index) (number_bytes kind number)) other ≡ number_in kind bytes other)
unfolding number_in
by-kind V1Short bytes index number long low small = (here16 bytes index number long low small, other16 bytes index number long low small)
by-kind V1Long bytes index number long low small = (here16 bytes index number long low small, other16 bytes index number long low small)
by-kind V2Short bytes index number long low small = (here32 bytes index number long low small, other32 bytes index number long low small)
by-kind V2Long bytes index number long low small = (here32 bytes index number long low small, other32 bytes index number long low small)

pub number_bytes_law : NumberBytesLaw
number_bytes_law super bytes index number long low small =
    let both = by-kind super.kind bytes index number long low small in
    record { here = both.0; others = both.1 }
