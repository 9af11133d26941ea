-- The bytes of an entry.
use Rattle.std.proofs.Common.{◌≡◌, ◌≢◌, ℕ, zero, suc, ◌-◌, ◌<◌, ◌≤◌, ◌^◌, ◌==◌, List, ◌++◌, length, take, get_or, replicate, refl, sym, ◌∙◌, ap, arith, length-append}
use Rattle.std.specs.Prelude.{slice_index}
use Rattle.std.specs.List.{before_first, position_or_len}
use Rattle.std.specs.Int.{w16, from_le_bytes}
use Rattle.std.proofs.lemmas.Bool.{ne_eqb}
use Rattle.std.proofs.lemmas.List.{length-replicate, get_or_append_left, get_or-append_right}
use Rattle.std.proofs.lemmas.List.Sums.{position_or_len_is}
use Rattle.std.proofs.lemmas.Nat.{from_le_bytes-to_le_bytes_2}
use Rattle.std.proofs.Math.Seq.{take-length, take-append_seam, drop-append_seam}
use Rattle.lilo_model.specs.Bytes.{number16, bytes16, filled_bytes, name_in}
use Rattle.lilo_model.specs.MinixLayout.{name_size}
use Rattle.lilo_model.specs.MinixEntries.{entry_with, entry_of}
use Rattle.minix_change_laws.specs.Written.{entry_bytes}
use Rattle.minix_change_laws.specs.EntryBytesLaws.{EntryBytesLaw}

zeros : (n index : ℕ) → slice_index (replicate n 0) index ≡ 0
zeros zero index = refl
zeros (suc n) zero = refl
zeros (suc n) (suc index) = zeros n index

number-said : (number : ℕ) (rest : List ℕ) → number < 2 ^ 16 → number16 (bytes16 number ++ rest) 0 ≡ number
unfolding number16
number-said number rest low = ap (from_le_bytes w16) (take-append_seam (bytes16 number) rest) ∙ from_le_bytes-to_le_bytes_2 number low

module _ (name : List ℕ) (size : ℕ) (short : length name ≤ size) (no_zero : (index other : ℕ) → index < length name → get_or name index other ≢ 0) where
  length-field : length (filled_bytes size name) ≡ size
  length-field = length-append name (replicate (size - length name) 0) ∙ (let more = length-replicate {A = ℕ} (size - length name) 0 in omega (arith, more, short))

  -- the first zero byte is the one after the name
  name-ends : position_or_len (λ byte. byte == 0) (filled_bytes size name) ≡ length name
  name-ends = position_or_len_is (λ byte. byte == 0) (filled_bytes size name) (length name) 0
      (omega (arith, length-field, short))
      (λ index low. ap (λ byte. byte == 0) (get_or_append_left name (replicate (size - length name) 0) 0 index low) ∙ ne_eqb (get_or name index 0) 0 (no_zero index 0 low))
      (λ below. ap (λ byte. byte == 0) (get_or-append_right name (replicate (size - length name) 0) (length name) (length name) 0 refl (omega arith) ∙ zeros (size - length name) (length name - length name)))

  field-said : before_first (λ byte. byte == 0) (filled_bytes size name) ≡ name
  field-said = ap (λ n. take n (filled_bytes size name)) name-ends ∙ take-append_seam name (replicate (size - length name) 0)

  name-said : (number : ℕ) → name_in (bytes16 number ++ filled_bytes size name) 2 size ≡ name
  name-said number =
      ap (λ field. before_first (λ byte. byte == 0) (take size field)) (drop-append_seam (bytes16 number) (filled_bytes size name))
      ∙ (ap (λ n. before_first (λ byte. byte == 0) (take n (filled_bytes size name))) (sym length-field)
      ∙ (ap (before_first (λ byte. byte == 0)) (take-length (filled_bytes size name)) ∙ field-said))

pub entry_bytes_law : EntryBytesLaw
unfolding entry_of
entry_bytes_law kind number name low fits =
    let field : length (filled_bytes (name_size kind) name) ≡ name_size kind = length-field name (name_size kind) fits.short fits.no_zero in
    let two : length (bytes16 number) ≡ 2 = refl in (
      length-append (bytes16 number) (filled_bytes (name_size kind) name) ∙ omega (arith, field, two),
      ap (λ n. entry_with n (name_in (entry_bytes kind number name) 2 (name_size kind))) (number-said number (filled_bytes (name_size kind) name) low)
          ∙ ap (entry_with number) (name-said name (name_size kind) fits.short fits.no_zero number),
    )
