-- What the tests of a boot sector give.
use Rattle.std.proofs.Common.{◌≡◌, ◌<◌, ◌≤◌, ℕ, List, true, arith}
use Rattle.std.specs.Prelude.{◌||◌}
use Rattle.lilo_model.specs.Bytes.{part_of, number16, is_zero}
use Rattle.lilo_model.specs.Slots.{is_one_slot}
use Rattle.lilo_model.specs.BootSector.{is_whole, has_names, has_slots, has_message, has_no_message, has_whole_message}

has_names-ranges :
    (bytes : List ℕ) → has_names bytes ≡ true
    → (1 ≤ number16 bytes 0x12) × (number16 bytes 0x12 ≤ 19) × (number16 bytes 0x60 < number16 bytes 0x12)
unfolding has_names
has_names-ranges bytes good = (grind arith, grind arith, grind arith)

-- the number of names and the default entry are in their ranges
pub whole_names :
    (bytes : List ℕ) → is_whole bytes ≡ true
    → (1 ≤ number16 bytes 0x12) × (number16 bytes 0x12 ≤ 19) × (number16 bytes 0x60 < number16 bytes 0x12)
unfolding is_whole
whole_names bytes whole = let names : has_names bytes ≡ true = grind arith in has_names-ranges bytes names

-- the slots that each boot sector has are there
pub whole_slots : (bytes : List ℕ) → is_whole bytes ≡ true → has_slots bytes ≡ true
unfolding is_whole
whole_slots bytes whole = grind arith

-- the slots of the default line and of the zero sector are one sector each
pub whole_line :
    (bytes : List ℕ) → has_slots bytes ≡ true
    → (is_one_slot (part_of bytes 0x18 8) ≡ true) × (is_one_slot (part_of bytes 0x20 8) ≡ true)
unfolding has_slots
whole_line bytes slots = (grind arith, grind arith)

has_message-slot :
    (bytes : List ℕ) → has_message bytes ≡ true
    → (is_zero (part_of bytes 0x28 8) || is_one_slot (part_of bytes 0x28 8)) ≡ true
unfolding has_message has_no_message has_whole_message
has_message-slot bytes good = grind arith

-- the slot of the message is zeros or one sector
pub whole_message :
    (bytes : List ℕ) → is_whole bytes ≡ true
    → (is_zero (part_of bytes 0x28 8) || is_one_slot (part_of bytes 0x28 8)) ≡ true
unfolding is_whole
whole_message bytes whole =
    let message : has_message bytes ≡ true = grind arith in has_message-slot bytes message
