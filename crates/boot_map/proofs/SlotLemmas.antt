-- What bytes that may be a slot are decoded to.
use Rattle.std.proofs.Common.{◌≡◌, ℕ, ◌+◌, List, [], ◌∷◌, ◌++◌, length, map, Bool, true, false, refl, sym, ap, ◌∙◌, arith, append_assoc, append-nil, length-append}
use Rattle.std.specs.List.{concat}
use Rattle.std.specs.Prelude.{◌==◌, slice_index_or, Option, Some, None, Result, Ok, Err, if◌then◌else◌}
use Rattle.lilo_model.specs.Bytes.{is_zero, with_part}
use Rattle.lilo_model.specs.Slots as model
use Rattle.lilo_model.specs.Slots.{is_slot, is_one_slot, has_ranges, slot_of, slot_at, slot_bytes}
use Rattle.sector_address.specs.View.{slot_view}
use Rattle.sector_address.specs.declared.slot.Slot.{Slot}
use Rattle.map_again_laws.proofs.Parts.{written-first, written-next}
use Rattle.map_again_laws.proofs.SlotAgain.{length-slot}
use Rattle.boot_map.specs.Ranges.{IsOneSector}

-- a slot isn't all zeros, since its mode is at least 1
pub is_slot-not_zero : (bytes : List ℕ) → is_slot bytes ≡ true → is_zero bytes ≡ false
unfolding is_slot has_ranges is_zero
is_slot-not_zero [] good = grind arith
is_slot-not_zero (byte ∷ bytes) good = grind arith

-- the slot that was decoded, if any
abbrev pub slot_or_none : Result (Option model.Slot) model.AddressFault → Option model.Slot
slot_or_none (Ok slot) = slot
slot_or_none (Err _) = None

by_cases :
    (bytes : List ℕ) (none some : Bool) → is_zero bytes ≡ none → is_slot bytes ≡ some
    → slot_or_none (slot_at bytes) ≡ (if some then Some (slot_of bytes) else None)
unfolding slot_at
by_cases bytes true true is_none is_some =
    let other : is_zero bytes ≡ false = is_slot-not_zero bytes is_some in cc
by_cases bytes true false is_none is_some = rw is_none refl
by_cases bytes false true is_none is_some = rw (is_none, is_some) refl
by_cases bytes false false is_none is_some = rw (is_none, is_some) refl

-- bytes are decoded as a slot exactly where they are one
pub slot_at-is_slot :
    (bytes : List ℕ) → slot_or_none (slot_at bytes) ≡ (if is_slot bytes then Some (slot_of bytes) else None)
slot_at-is_slot bytes = by_cases bytes (is_zero bytes) (is_slot bytes) refl refl

-- bytes are a slot of one sector where the slot in them is
pub some-is_one :
    (bytes : List ℕ) (slot : Slot) → Some (slot_view slot) ≡ (if is_slot bytes then Some (slot_of bytes) else None)
    → (slot.count == 1) ≡ is_one_slot bytes
unfolding is_one_slot slot_of
some-is_one bytes slot found = grind arith

-- bytes without a slot are no slot of one sector
pub none-not_one :
    (bytes : List ℕ) → None ≡ (if is_slot bytes then Some (slot_of bytes) else None) → is_one_slot bytes ≡ false
unfolding is_one_slot
none-not_one bytes found = grind arith

-- the slot in bytes that are a slot of one sector
pub some-slot_of :
    (bytes : List ℕ) (slot : Slot) → Some (slot_view slot) ≡ (if is_slot bytes then Some (slot_of bytes) else None)
    → is_one_slot bytes ≡ true → slot_view slot ≡ slot_of bytes
unfolding is_one_slot
some-slot_of bytes slot found one = let is_one : is_slot bytes ≡ true = grind arith in cc (rw is_one at found)

-- it has the count 1, and lies on one of the disks 0 to 3
pub slot_of-ranges :
    (bytes : List ℕ) (slot : Slot) → slot_view slot ≡ slot_of bytes → is_one_slot bytes ≡ true → IsOneSector slot
unfolding is_one_slot is_slot has_ranges slot_of
slot_of-ranges bytes slot same one =
    let count : slot.count ≡ (slot_of bytes).count = cc in
    let disk : slot.disk ≡ (slot_of bytes).disk = cc in
    (grind arith, grind arith)

-- the bytes of three slots are 24
pub length-three : (slots : List Slot) → length slots ≡ 3 → length (concat (map slot_bytes (map slot_view slots))) ≡ 24
length-three (one ∷ (two ∷ (three ∷ []))) is =
    length-append (slot_bytes (slot_view one)) (slot_bytes (slot_view two) ++ (slot_bytes (slot_view three) ++ []))
    ∙ ap (λ n. length (slot_bytes (slot_view one)) + n) (length-append (slot_bytes (slot_view two)) (slot_bytes (slot_view three) ++ []) ∙ ap (λ n. length (slot_bytes (slot_view two)) + n) (length-append (slot_bytes (slot_view three)) []))
    ∙ omega (arith, length-slot (slot_view one), length-slot (slot_view two), length-slot (slot_view three))
length-three _ is = absurd (omega (arith, is))

-- three slots that are written one after the other
pub three-put :
    (slots : List Slot) (d1 d2 d3 : Slot) (bytes first second third : List ℕ) → length slots ≡ 3 → length bytes ≡ 512
    → first ≡ with_part bytes 0x30 (slot_bytes (slot_view (slice_index_or slots 0 d1)))
    → second ≡ with_part first 0x38 (slot_bytes (slot_view (slice_index_or slots 1 d2)))
    → third ≡ with_part second 0x40 (slot_bytes (slot_view (slice_index_or slots 2 d3)))
    → third ≡ with_part bytes 0x30 (concat (map slot_bytes (map slot_view slots)))
three-put (a ∷ (b ∷ (d ∷ []))) d1 d2 d3 bytes first second third is size e1 e2 e3 =
    let w = written-first bytes (slot_bytes (slot_view a)) first 0x30 8 size e1 (length-slot (slot_view a)) in
    let w = written-next w (slot_bytes (slot_view b)) second 0x38 8 e2 (length-slot (slot_view b)) refl (omega arith) in
    let w = written-next w (slot_bytes (slot_view d)) third 0x40 8 e3 (length-slot (slot_view d)) refl (omega arith) in
    w.is
    ∙ ap (with_part bytes 0x30)
    (append_assoc (slot_bytes (slot_view a)) (slot_bytes (slot_view b)) (slot_bytes (slot_view d))
    ∙ ap (λ last. slot_bytes (slot_view a) ++ (slot_bytes (slot_view b) ++ last)) (sym (append-nil (slot_bytes (slot_view d)))))
three-put _ d1 d2 d3 bytes first second third is size e1 e2 e3 = absurd (omega (arith, is))
