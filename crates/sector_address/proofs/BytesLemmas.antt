-- A slot and its eight bytes name each other.
use Rattle.std.proofs.Common.{◌≡◌, ◌+◌, ◌-◌, ◌*◌, ◌/◌, ◌%◌, ◌≤◌, ◌<◌, ◌==◌, ℕ, suc, Bool, true, false, refl, sym, ◌∙◌, ap, List, [], ◌∷◌, ◌++◌, length, take, Some, Ok, arith}
use Rattle.std.specs.Int.{w32, from_le_bytes}
use Rattle.std.specs.Prelude.{slice_index}
use Rattle.std.proofs.lemmas.Nat.{le_bytes_4, from_le_bytes-to_le_bytes_4}
use Rattle.lilo_model.specs.Bytes.{is_zero, with_part, number32, bytes32}
use Rattle.lilo_model.specs.Slots.{Address, Chs, Linear, Lba32, Slot, has_ranges, has_address, is_slot, chs_of, address_of, slot_of, slot_at, slot_bytes}
use Rattle.sector_address.specs.Whole.{IsSlot}
use Rattle.sector_address.specs.Laws.{AreBytes, EncodeLaw, OneSpellingLaw}

-- four bytes written one by one after the first four of eight
pub four_put :
    (bytes : List ℕ) (a b c d : ℕ) → length bytes ≡ 8
    → with_part (with_part (with_part (with_part bytes 4 (a ∷ [])) 5 (b ∷ [])) 6 (c ∷ [])) 7 (d ∷ [])
    ≡ take 4 bytes ++ (a ∷ (b ∷ (c ∷ (d ∷ []))))
four_put (e ∷ (f ∷ (g ∷ (h ∷ (i ∷ (j ∷ (k ∷ (l ∷ [])))))))) a b c d long = refl
four_put _ a b c d long = absurd (omega arith)

slot_at-slot :
    (bytes : List ℕ) (slot : Slot) → is_zero bytes ≡ false → is_slot bytes ≡ true → slot_of bytes ≡ slot
    → slot_at bytes ≡ Ok (Some slot)
unfolding slot_at
slot_at-slot bytes slot some good is = rw (some, good, is) refl

-- bytes with ranges and an address of their mode are a slot
is_slot-good : (bytes : List ℕ) → has_ranges bytes ≡ true → has_address bytes ≡ true → is_slot bytes ≡ true
unfolding is_slot
is_slot-good bytes ranges address = rw (ranges, address) refl

-- a slot by cylinder, head and sector
abbrev chs_slot : ℕ → ℕ → ℕ → ℕ → ℕ → Slot
chs_slot disk count cylinder head sector =
    record { disk = disk; count = count; address = Chs cylinder head sector }

abbrev linear_slot : ℕ → ℕ → ℕ → Slot
linear_slot disk count number = record { disk = disk; count = count; address = Linear number }

abbrev lba32_slot : ℕ → ℕ → ℕ → Slot
lba32_slot disk count number = record { disk = disk; count = count; address = Lba32 number }

encode_chs :
    (disk count cylinder head sector : ℕ) → IsSlot (chs_slot disk count cylinder head sector)
    → slot_at (slot_bytes (chs_slot disk count cylinder head sector))
    ≡ Ok (Some (chs_slot disk count cylinder head sector))
unfolding slot_bytes is_zero has_ranges has_address slot_of address_of chs_of
encode_chs disk count cylinder head sector whole =
    let at = whole.address in
    let above : (cylinder / 256 * 64 + sector) / 64 * 256 + cylinder % 256 ≡ cylinder = omega arith in
    let below : (cylinder / 256 * 64 + sector) % 64 ≡ sector = omega arith in
    let device : 0x80 + disk - 0x80 ≡ disk = omega arith in
    slot_at-slot (slot_bytes (chs_slot disk count cylinder head sector)) (chs_slot disk count cylinder head sector)
    refl
    (is_slot-good (slot_bytes (chs_slot disk count cylinder head sector)) (grind arith) (grind arith))
    (rw (above, below, device) refl)

encode_linear :
    (disk count number : ℕ) → IsSlot (linear_slot disk count number)
    → slot_at (slot_bytes (linear_slot disk count number)) ≡ Ok (Some (linear_slot disk count number))
unfolding slot_bytes is_zero has_ranges has_address slot_of address_of number32
encode_linear disk count number whole =
    let read = from_le_bytes-to_le_bytes_4 number whole.address in
    let device : 0x80 + disk - 0x80 ≡ disk = omega arith in
    slot_at-slot (slot_bytes (linear_slot disk count number)) (linear_slot disk count number)
    refl
    (is_slot-good (slot_bytes (linear_slot disk count number)) (grind arith) refl)
    (rw device (ap (λ n. linear_slot disk count n) read))

encode_lba32 :
    (disk count number : ℕ) → IsSlot (lba32_slot disk count number)
    → slot_at (slot_bytes (lba32_slot disk count number)) ≡ Ok (Some (lba32_slot disk count number))
unfolding slot_bytes is_zero has_ranges has_address slot_of address_of number32
encode_lba32 disk count number whole =
    let read = from_le_bytes-to_le_bytes_4 number whole.address in
    let device : 0x80 + disk - 0x80 ≡ disk = omega arith in
    slot_at-slot (slot_bytes (lba32_slot disk count number)) (lba32_slot disk count number)
    refl
    (is_slot-good (slot_bytes (lba32_slot disk count number)) (grind arith) refl)
    (rw device (ap (λ n. lba32_slot disk count n) read))

encode_by :
    (disk count : ℕ) (address : Address) → let slot : Slot = record { disk = disk; count = count; address = address } in
    IsSlot slot → slot_at (slot_bytes slot) ≡ Ok (Some slot)
encode_by disk count (Chs cylinder head sector) whole = encode_chs disk count cylinder head sector whole
encode_by disk count (Linear number) whole = encode_linear disk count number whole
encode_by disk count (Lba32 number) whole = encode_lba32 disk count number whole

-- a slot's eight bytes are that slot
pub encode_law : EncodeLaw
encode_law slot whole = encode_by slot.disk slot.count slot.address whole

-- ---- the other way

-- what the first four bytes of a slot are
pub record HasRanges (bytes : List ℕ) : Type 0 where
  pub some_mode : 1 ≤ slice_index bytes 0
  pub few_modes : slice_index bytes 0 ≤ 3
  pub some_device : 0x80 ≤ slice_index bytes 1
  pub few_devices : slice_index bytes 1 ≤ 0x83
  pub some : 1 ≤ slice_index bytes 2
  pub few : slice_index bytes 2 ≤ 127
  pub zero_byte : slice_index bytes 3 ≡ 0

pub ranges_of : (bytes : List ℕ) → is_slot bytes ≡ true → HasRanges bytes
unfolding is_slot has_ranges
ranges_of bytes good = record {
  some_mode = grind arith;
  few_modes = grind arith;
  some_device = grind arith;
  few_devices = grind arith;
  some = grind arith;
  few = grind arith;
  zero_byte = grind arith;
}

-- in mode 1 the sector isn't 0
pub some_sector : (bytes : List ℕ) → is_slot bytes ≡ true → slice_index bytes 0 ≡ 1 → 1 ≤ slice_index bytes 4 % 64
unfolding is_slot has_address
some_sector bytes good one = grind arith

-- in mode 1 the last byte is zero
zero_end : (bytes : List ℕ) → is_slot bytes ≡ true → slice_index bytes 0 ≡ 1 → slice_index bytes 7 ≡ 0
unfolding is_slot has_address
zero_end bytes good one = grind arith

-- the address in mode 1
address_of-one : (bytes : List ℕ) → slice_index bytes 0 ≡ 1 → address_of bytes ≡ chs_of bytes
unfolding address_of
address_of-one bytes mode = rw mode refl

address_of-two : (bytes : List ℕ) → slice_index bytes 0 ≡ 2 → address_of bytes ≡ Linear (number32 bytes 4)
unfolding address_of
address_of-two bytes mode = rw mode refl

address_of-three : (bytes : List ℕ) → slice_index bytes 0 ≡ 3 → address_of bytes ≡ Lba32 (number32 bytes 4)
unfolding address_of
address_of-three bytes mode = rw mode refl

-- four bytes are those of their number
bytes32-number32 :
    (a b c d e f g h : ℕ) → AreBytes (a ∷ (b ∷ (c ∷ (d ∷ (e ∷ (f ∷ (g ∷ (h ∷ []))))))))
    → bytes32 (number32 (a ∷ (b ∷ (c ∷ (d ∷ (e ∷ (f ∷ (g ∷ (h ∷ [])))))))) 4) ≡ e ∷ (f ∷ (g ∷ (h ∷ [])))
unfolding number32
bytes32-number32 a b c d e f g h few =
    le_bytes_4 (e ∷ (f ∷ (g ∷ (h ∷ [])))) (from_le_bytes w32 (e ∷ (f ∷ (g ∷ (h ∷ []))))) refl (λ i. few (suc (suc (suc (suc i))))) refl

spelling_by :
    (bytes : List ℕ) → length bytes ≡ 8 → AreBytes bytes → is_slot bytes ≡ true
    → (one two : Bool) → (slice_index bytes 0 == 1) ≡ one → (slice_index bytes 0 == 2) ≡ two
    → slot_bytes (slot_of bytes) ≡ bytes
unfolding slot_of slot_bytes chs_of
spelling_by (a ∷ (b ∷ (c ∷ (d ∷ (e ∷ (f ∷ (g ∷ (h ∷ [])))))))) long few good true two is_one is_two =
    let bytes = a ∷ (b ∷ (c ∷ (d ∷ (e ∷ (f ∷ (g ∷ (h ∷ []))))))) in
    let ranges = ranges_of bytes good in
    let mode : a ≡ 1 = grind arith in
    let device : 0x80 + (b - 0x80) ≡ b = omega arith in
    let zero_byte : d ≡ 0 = ranges.zero_byte in
    let end_byte : h ≡ 0 = zero_end bytes good mode in
    let low : f < 256 = few 5 in
    let high : (e / 64 * 256 + f) / 256 * 64 + e % 64 ≡ e = omega arith in
    let below : (e / 64 * 256 + f) % 256 ≡ f = omega arith in
    rw (address_of-one bytes mode) (cc)
spelling_by (a ∷ (b ∷ (c ∷ (d ∷ (e ∷ (f ∷ (g ∷ (h ∷ [])))))))) long few good false true is_one is_two =
    let bytes = a ∷ (b ∷ (c ∷ (d ∷ (e ∷ (f ∷ (g ∷ (h ∷ []))))))) in
    let ranges = ranges_of bytes good in
    let mode : a ≡ 2 = grind arith in
    let device : 0x80 + (b - 0x80) ≡ b = omega arith in
    let zero_byte : d ≡ 0 = ranges.zero_byte in
    let number = bytes32-number32 a b c d e f g h few in
    rw (address_of-two bytes mode) (rw number (cc))
spelling_by (a ∷ (b ∷ (c ∷ (d ∷ (e ∷ (f ∷ (g ∷ (h ∷ [])))))))) long few good false false is_one is_two =
    let bytes = a ∷ (b ∷ (c ∷ (d ∷ (e ∷ (f ∷ (g ∷ (h ∷ []))))))) in
    let ranges = ranges_of bytes good in
    let mode : a ≡ 3 = grind arith in
    let device : 0x80 + (b - 0x80) ≡ b = omega arith in
    let zero_byte : d ≡ 0 = ranges.zero_byte in
    let number = bytes32-number32 a b c d e f g h few in
    rw (address_of-three bytes mode) (rw number (cc))
spelling_by _ long few good one two is_one is_two = absurd (omega arith)

-- bytes that are a slot are the bytes of that slot
spelling :
    (bytes : List ℕ) (slot : Slot) → length bytes ≡ 8 → AreBytes bytes → (zeros good : Bool)
    → is_zero bytes ≡ zeros → is_slot bytes ≡ good → slot_at bytes ≡ Ok (Some slot) → slot_bytes slot ≡ bytes
unfolding slot_at
spelling bytes slot long few true good is_zeros is_good read = let e = rw is_zeros at read in cc
spelling bytes slot long few false true is_zeros is_good read =
    let found : slot_of bytes ≡ slot = let e = rw (is_zeros, is_good) at read in cc in
    ap slot_bytes (sym found) ∙ spelling_by bytes long few is_good _ _ refl refl
spelling bytes slot long few false false is_zeros is_good read =
    let e = rw (is_zeros, is_good) at read in cc

-- no two lists of eight bytes are the same slot
pub one_spelling_law : OneSpellingLaw
one_spelling_law bytes other slot long few long' few' read read' =
    sym (spelling bytes slot long few _ _ refl refl read) ∙ spelling other slot long' few' _ _ refl refl read'
