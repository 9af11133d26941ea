-- A table that is written is read again.
use Rattle.std.proofs.Common.{◌≡◌, ◌≤◌, ◌<◌, ℕ, zero, suc, ◌+◌, ◌-◌, ◌*◌, ◌/◌, ◌%◌, Bool, false, List, [], ◌∷◌, ◌++◌, map, length, take, drop, replicate, Option, None, Some, Ok, refl, sym, ap, subst, ◌∙◌, arith, append_assoc}
use Rattle.std.specs.Prelude.{flat_map, bytes_eq, slice_index_or}
use Rattle.std.specs.List.{range_with_len}
use Rattle.std.proofs.lemmas.List.{drop-drop}
use Rattle.lilo_model.specs.Bytes.{part_of, filled_bytes}
use Rattle.lilo_model.specs.Table.{Descriptor, first_below, same_name, repeats, breaks, entry_name, entry_bytes, descriptor_of, descriptor_bytes, descriptors_of, table_at}
use Rattle.lilo_model.specs.Plan.{sectors_of_table}
use Rattle.map_again_laws.proofs.Parts.{part-after, part-prefix}
use Rattle.map_again_laws.specs.Fits.{FitsEntry, FitEntries, IsOtherName, HaveNames}
use Rattle.map_again_laws.proofs.EntryAgain.{EntryAgain, entry_again, length-entry}

-- ---- entries, each 64 bytes

-- the entry at an index
abbrev pub entry_of_list : List Descriptor → ℕ → Option Descriptor
entry_of_list [] index = None
entry_of_list (entry ∷ entries) zero = Some entry
entry_of_list (entry ∷ entries) (suc index) = entry_of_list entries index

-- the bytes of the entry at an index among those of all
entries-at : (entries : List Descriptor) (tail : List ℕ) (index : ℕ) (entry : Descriptor) → FitEntries entries → entry_of_list entries index ≡ Some entry
    → part_of (flat_map descriptor_bytes entries ++ tail) (64 * index) 64 ≡ descriptor_bytes entry
entries-at [] tail index entry fit is = cc
entries-at (first ∷ entries) tail zero entry fit is =
    let same : first ≡ entry = cc in
    ap (λ bytes. part_of bytes 0 64) (append_assoc (descriptor_bytes first) (flat_map descriptor_bytes entries) tail)
    ∙ part-prefix (descriptor_bytes first) (flat_map descriptor_bytes entries ++ tail) 64 (length-entry first (omega (arith, fit.0.name))) ∙ ap descriptor_bytes same
entries-at (first ∷ entries) tail (suc index) entry fit is =
    let long = length-entry first (omega (arith, fit.0.name)) in
    ap (λ bytes. part_of bytes (64 * suc index) 64) (append_assoc (descriptor_bytes first) (flat_map descriptor_bytes entries) tail)
    ∙ part-after (descriptor_bytes first) (flat_map descriptor_bytes entries ++ tail) (64 * suc index) (64 * index) 64 (omega (arith, long))
    ∙ entries-at entries tail index entry fit.1 is

take-none : (m : ℕ) → take {A = ℕ} m [] ≡ []
take-none zero = refl
take-none (suc m) = refl

-- a part of a part
part-part : (bytes : List ℕ) (at size n len : ℕ) → n + len ≤ size → part_of (part_of bytes at size) n len ≡ part_of bytes (at + n) len
part-part bytes at size n len fits =
    ap (take len) (drop-take n size (drop at bytes))
    ∙ take-take len (size - n) (drop n (drop at bytes)) (omega (arith, fits))
    ∙ ap (take len) (drop-drop n at bytes)
  where
    drop-take : (n size : ℕ) (bytes : List ℕ) → drop n (take size bytes) ≡ take (size - n) (drop n bytes)
    drop-take zero size bytes = let all : size ≡ size - 0 = omega arith in ap (λ m. take m bytes) all
    drop-take (suc n) zero bytes = let none : 0 ≡ 0 - suc n = omega arith in ap (λ m. take m (drop (suc n) bytes)) none
    drop-take (suc n) (suc size) [] = sym (take-none (suc size - suc n))
    drop-take (suc n) (suc size) (byte ∷ bytes) = let less : size - n ≡ suc size - suc n = omega arith in drop-take n size bytes ∙ ap (λ m. take m (drop n bytes)) less

    take-take : (len m : ℕ) (bytes : List ℕ) → len ≤ m → take len (take m bytes) ≡ take len bytes
    take-take zero m bytes fits = refl
    take-take (suc len) zero bytes fits = absurd (omega (arith, fits))
    take-take (suc len) (suc m) [] fits = refl
    take-take (suc len) (suc m) (byte ∷ bytes) fits = ap (λ bytes. byte ∷ bytes) (take-take len m bytes (omega (arith, fits)))

-- the bytes of an entry in the three sectors
abbrev all_bytes : List Descriptor → List ℕ
all_bytes entries = filled_bytes 1536 (flat_map descriptor_bytes entries)

third-of : (bytes : List ℕ) (index : ℕ) → index < 3 → slice_index_or (map (λ index. part_of bytes (512 * index) 512) (range_with_len 0 3)) index [] ≡ part_of bytes (512 * index) 512
third-of bytes zero below = refl
third-of bytes (suc zero) below = refl
third-of bytes (suc (suc zero)) below = refl
third-of bytes (suc (suc (suc index))) below = absurd (omega (arith, below))

entry-bytes : (entries : List Descriptor) (index : ℕ) (entry : Descriptor) → FitEntries entries → index < 24 → entry_of_list entries index ≡ Some entry
    → entry_bytes (sectors_of_table entries) index ≡ descriptor_bytes entry
unfolding entry_bytes sectors_of_table
entry-bytes entries index entry fit below is =
    let sector : index / 8 < 3 = omega (arith, below) in
    let place : 512 * (index / 8) + index % 8 * 64 ≡ 64 * index = omega arith in
    ap (λ bytes. part_of bytes (index % 8 * 64) 64) (third-of (all_bytes entries) (index / 8) sector)
    ∙ part-part (all_bytes entries) (512 * (index / 8)) 512 (index % 8 * 64) 64 (omega arith)
    ∙ ap (λ at. part_of (all_bytes entries) at 64) place
    ∙ entries-at entries (replicate (1536 - length (flat_map descriptor_bytes entries)) 0) index entry fit is

-- ---- no entry breaks the format

none-below : (test : ℕ → Bool) (count : ℕ) → ((index : ℕ) → index < count → test index ≡ false) → first_below test count ≡ None
none-below test zero good = refl
none-below test (suc count) good = rw (none-below test count (λ index below. good index (omega (arith, below))), good count (omega arith)) refl

entry-there : (entries : List Descriptor) (index : ℕ) → index < length entries → (entry : Descriptor) × (entry_of_list entries index ≡ Some entry)
entry-there [] index below = absurd (omega (arith, below))
entry-there (entry ∷ entries) zero below = (entry, refl)
entry-there (entry ∷ entries) (suc index) below = entry-there entries index (omega (arith, below))

entry-fits : (entries : List Descriptor) (index : ℕ) (entry : Descriptor) → FitEntries entries → entry_of_list entries index ≡ Some entry → FitsEntry entry
entry-fits [] index entry fit is = cc
entry-fits (first ∷ entries) zero entry fit is = let same : first ≡ entry = cc in subst FitsEntry same fit.0
entry-fits (first ∷ entries) (suc index) entry fit is = entry-fits entries index entry fit.1 is

other-name : (name : List ℕ) (entries : List Descriptor) (index : ℕ) (entry : Descriptor) → IsOtherName name entries → entry_of_list entries index ≡ Some entry → bytes_eq name entry.name ≡ false
other-name name [] index entry other is = cc
other-name name (first ∷ entries) zero entry other is = let same : first ≡ entry = cc in subst (λ entry. bytes_eq name entry.name ≡ false) same other.0
other-name name (first ∷ entries) (suc index) entry other is = other-name name entries index entry other.1 is

-- the name of an earlier entry is another
earlier-name : (entries : List Descriptor) (index other : ℕ) (entry earlier : Descriptor) → HaveNames entries → other < index → entry_of_list entries index ≡ Some entry → entry_of_list entries other ≡ Some earlier
    → bytes_eq earlier.name entry.name ≡ false
earlier-name [] index other entry earlier have less is was = cc
earlier-name (first ∷ entries) zero other entry earlier have less is was = absurd (omega (arith, less))
earlier-name (first ∷ entries) (suc index) zero entry earlier have less is was =
    let same : first ≡ earlier = cc in
    subst (λ earlier. bytes_eq earlier.name entry.name ≡ false) same (other-name first.name entries index entry have.0 is)
earlier-name (first ∷ entries) (suc index) (suc other) entry earlier have less is was = earlier-name entries index other entry earlier have.1 (omega (arith, less)) is was

module _ (entries : List Descriptor) (fit : FitEntries entries) (have : HaveNames entries) (few : length entries ≤ 24) where
  bytes-at : (index : ℕ) (below : index < length entries) → entry_bytes (sectors_of_table entries) index ≡ descriptor_bytes (entry-there entries index below).0
  bytes-at index below = entry-bytes entries index (entry-there entries index below).0 fit (omega (arith, below, few)) (entry-there entries index below).1

  again-at : (index : ℕ) (below : index < length entries) → EntryAgain (entry-there entries index below).0
  again-at index below = entry_again (entry-there entries index below).0 (entry-fits entries index (entry-there entries index below).0 fit (entry-there entries index below).1)

  name-at : (index : ℕ) (below : index < length entries) → entry_name (entry_bytes (sectors_of_table entries) index) ≡ (entry-there entries index below).0.name
  unfolding descriptor_of
  name-at index below = ap entry_name (bytes-at index below) ∙ ap (λ (entry : Descriptor). entry.name) (again-at index below).is

  not-same : (index other : ℕ) → index < length entries → other < index → same_name (sectors_of_table entries) index other ≡ false
  unfolding same_name
  not-same index other below less =
      let earlier : other < length entries = omega (arith, below, less) in
      rw (name-at other earlier, name-at index below)
      (earlier-name entries index other (entry-there entries index below).0 (entry-there entries other earlier).0 have less (entry-there entries index below).1 (entry-there entries other earlier).1)

  keeps : (index : ℕ) → index < length entries → breaks (sectors_of_table entries) index ≡ false
  unfolding breaks repeats
  keeps index below =
      rw (bytes-at index below, (again-at index below).good, none-below (same_name (sectors_of_table entries) index) index (λ other less. not-same index other below less)) refl

  -- the descriptors that are read, up to a number
  prefix-of : (index : ℕ) → index ≤ length entries → descriptors_of (sectors_of_table entries) index ≡ take index entries
  prefix-of zero below = refl
  prefix-of (suc index) below =
      let less : index < length entries = omega (arith, below) in
      ap (λ prefix. prefix ++ (descriptor_of (entry_bytes (sectors_of_table entries) index) ∷ [])) (prefix-of index (omega (arith, below)))
      ∙ ap (λ bytes. take index entries ++ (descriptor_of bytes ∷ [])) (bytes-at index less)
      ∙ ap (λ entry. take index entries ++ (entry ∷ [])) (again-at index less).is
      ∙ take-more entries index (entry-there entries index less).0 (entry-there entries index less).1
    where
      take-more : (entries : List Descriptor) (index : ℕ) (entry : Descriptor) → entry_of_list entries index ≡ Some entry → take index entries ++ (entry ∷ []) ≡ take (suc index) entries
      take-more [] index entry is = cc
      take-more (first ∷ entries) zero entry is = let same : entry ≡ first = cc in ap (λ entry. entry ∷ []) same
      take-more (first ∷ entries) (suc index) entry is = ap (λ prefix. first ∷ prefix) (take-more entries index entry is)

  -- a table that is written is read again
  pub table_again : table_at (length entries) (sectors_of_table entries) ≡ Ok entries
  unfolding table_at
  table_again =
      rw (none-below (breaks (sectors_of_table entries)) (length entries) keeps, prefix-of (length entries) (omega arith))
      (ap Ok (take-length entries))
    where
      take-length : (entries : List Descriptor) → take (length entries) entries ≡ entries
      take-length [] = refl
      take-length (entry ∷ entries) = ap (λ prefix. entry ∷ prefix) (take-length entries)
