-- What the flags of an entry say of its other fields.
use Rattle.std.proofs.Common.{◌≡◌, ◌≤◌, ℕ, List, Bool, true, false, refl, sym, ap, Option, None, Some, arith}
use Rattle.std.specs.Prelude.{◌||◌, if◌then◌else◌, is_some}
use Rattle.std.specs.Option.{option_map}
use Rattle.lilo_model.specs.Bytes.{part_of, is_zero, number16, number32}
use Rattle.lilo_model.specs.Slots.{is_one_slot, some_slot}
use Rattle.lilo_model.specs.Table.{is_set, initrd_flag, password_flag, fallback_flag, other_flag, table_flag, has_length, has_main, has_initrd, has_extra, is_entry, descriptor_of}
use Rattle.sector_address.specs.View.{slot_view}
use Rattle.sector_address.specs.declared.slot.Slot.{Slot}
use Rattle.boot_map.specs.View.{descriptor_view}
use Rattle.boot_map.specs.Ranges.{FitsFlags}
use Rattle.boot_map.specs.declared.descriptor.Descriptor.{Descriptor}
use Rattle.boot_map.proofs.SlotLemmas.{is_slot-not_zero}

-- ---- slots that may be missing

viewed-is_some : (found : Option Slot) → is_some (option_map slot_view found) ≡ is_some found
viewed-is_some None = refl
viewed-is_some (Some slot) = refl

one-is_some : (bytes : List ℕ) → is_one_slot bytes ≡ true → is_some (some_slot bytes) ≡ true
unfolding some_slot is_one_slot
one-is_some bytes one = let other : is_zero bytes ≡ false = is_slot-not_zero bytes (grind arith) in rw other refl

zero-is_some : (bytes : List ℕ) → is_zero bytes ≡ true → is_some (some_slot bytes) ≡ false
unfolding some_slot
zero-is_some bytes zeros = rw zeros refl

-- ---- the tests of an entry

initrd_by : (bytes : List ℕ) (set : Bool) → is_set bytes initrd_flag ≡ set → has_initrd bytes ≡ true → is_some (some_slot (part_of bytes 44 8)) ≡ set
unfolding has_initrd
initrd_by bytes true set good = one-is_some (part_of bytes 44 8) (grind arith)
initrd_by bytes false set good = zero-is_some (part_of bytes 44 8) (grind arith)

extra_by :
    (bytes : List ℕ) (set : Bool) → (is_set bytes password_flag || is_set bytes fallback_flag) ≡ set → has_extra bytes ≡ true
    → is_some (some_slot (part_of bytes 56 8)) ≡ set
unfolding has_extra
extra_by bytes true set good = one-is_some (part_of bytes 56 8) (grind arith)
extra_by bytes false set good = zero-is_some (part_of bytes 56 8) (grind arith)

other_by :
    (bytes : List ℕ) → has_length bytes ≡ true → is_set bytes other_flag ≡ true
    → number32 bytes 20 ≡ (if is_set bytes table_flag then 1024 else 512)
unfolding has_length
other_by bytes good set = grind arith

some_by : (bytes : List ℕ) → has_length bytes ≡ true → 1 ≤ number32 bytes 20
unfolding has_length
some_by bytes good = grind arith

has_main-length : (bytes : List ℕ) → has_main bytes ≡ true → has_length bytes ≡ true
unfolding has_main
has_main-length bytes good = grind arith

entry_tests :
    (bytes : List ℕ) → is_entry bytes ≡ true
    → (has_main bytes ≡ true) × (has_initrd bytes ≡ true) × (has_extra bytes ≡ true)
unfolding is_entry
entry_tests bytes good = (grind arith, grind arith, grind arith)

-- what an entry says fits its flags
pub entry_fits :
    (bytes : List ℕ) (entry : Descriptor) → is_entry bytes ≡ true → descriptor_view entry ≡ descriptor_of bytes
    → FitsFlags entry
unfolding descriptor_of is_set
entry_fits bytes entry good same =
    let tests = entry_tests bytes good in
    let length = has_main-length bytes tests.0 in
    let flags : entry.flags ≡ number16 bytes 16 = ap (λ of. of.flags) same in
    let main : entry.length ≡ number32 bytes 20 = ap (λ of. of.main_length) same in
    let initrd : option_map slot_view entry.initrd ≡ some_slot (part_of bytes 44 8) = ap (λ of. of.initrd) same in
    let extra : option_map slot_view entry.extra ≡ some_slot (part_of bytes 56 8) = ap (λ of. of.extra) same in
    record {
      initrd =
          rw (flags, sym (viewed-is_some entry.initrd), initrd)
          (initrd_by bytes _ refl tests.1);
      extra =
          rw (flags, sym (viewed-is_some entry.extra), extra)
          (extra_by bytes _ refl tests.2);
      other = rw (flags, main) (other_by bytes length);
      some = rw main (some_by bytes length);
    }
