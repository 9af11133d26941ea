-- The boot sector of a map, in its version 1. The layout of its 512 bytes is this project's own; the last
-- two bytes are those that a BIOS looks for (IBM PC).
use Rattle.std.specs.Prelude.{ℕ, ◌==◌, nat_le, nat_lt, Bool, true, not, ◌&&◌, if◌then◌else◌, List, [], ◌∷◌, ◌++◌, map, replicate, bytes_eq, codes, Option, Some}
use Rattle.std.specs.Prelude.{None, Result, Ok, Err}
use Rattle.std.specs.List.{concat}
use Rattle.lilo_model.specs.Bytes.{part_of, number16, number32, bytes16, bytes32, is_zero, is_between}
use Rattle.lilo_model.specs.Slots.{Slot, is_one_slot, slot_of, some_slot, slot_bytes, optional_bytes}

-- what a boot sector says, but for the bytes that are code and the partition table
pub record BootSector : Type 0 where
  pub version : ℕ
  -- the time of installation
  pub time : ℕ
  -- whether the prompt is shown without a key
  pub prompt : Bool
  -- how long a key is waited for before the choice is made without one, in tenths of a second
  pub delay : ℕ
  -- how long a key is waited for once the prompt is shown, in tenths of a second
  pub timeout : Option ℕ
  -- how many entries the table has
  pub names : ℕ
  pub default_entry : ℕ
  -- the bytes of the message
  pub message_length : ℕ
  -- the section sectors of the message
  pub message_chain : ℕ
  -- the sector of the default line
  pub line : Slot
  -- a sector of zeros, which stands for a hole
  pub zero_sector : Slot
  -- the first section sector of the message
  pub message : Option Slot
  -- the sectors of the table
  pub table : List Slot

-- why a sector of a map is refused
pub data MapFault : Type 0 where
  -- a boot sector without the signature
  NotOurs : MapFault
  -- a boot sector of another version
  BadVersion : (version : ℕ) → MapFault
  -- an entry that breaks the format, or 255 for another field
  BadTable : (entry : ℕ) → MapFault
  -- the default line's sector
  BadLine : MapFault

-- the first six bytes, EB 7E LILO
abbrev pub first_bytes : List ℕ
first_bytes = 0xEB ∷ (0x7E ∷ codes "LILO")

-- the last two bytes, 55 AA
abbrev pub last_bytes : List ℕ
last_bytes = 0x55 ∷ (0xAA ∷ [])

-- whether a BIOS takes a sector for a boot sector
unfoldable pub is_bootable : List ℕ → Bool
is_bootable bytes = bytes_eq (part_of bytes 0x1FE 2) last_bytes

-- whether the sector begins with EB 7E LILO and ends with 55 AA
unfoldable pub has_signature : List ℕ → Bool
has_signature bytes = bytes_eq (part_of bytes 0 6) first_bytes && is_bootable bytes

-- whether only the flag of the prompt is set, and the delay is below 65,535 tenths of a second
unfoldable pub has_options : List ℕ → Bool
has_options bytes = nat_le (number16 bytes 0x0C) 1 && nat_lt (number16 bytes 0x0E) 0xFFFF

-- whether there are 1 to 19 names, and the default entry is one of them
unfoldable pub has_names : List ℕ → Bool
has_names bytes =
    is_between 1 19 (number16 bytes 0x12) && nat_lt (number16 bytes 0x60) (number16 bytes 0x12)

-- whether the slots of the default line, the zero sector and three table sectors are there
unfoldable pub has_slots : List ℕ → Bool
has_slots bytes =
    is_one_slot (part_of bytes 0x18 8)
    && is_one_slot (part_of bytes 0x20 8)
    && is_one_slot (part_of bytes 0x30 8)
    && is_one_slot (part_of bytes 0x38 8)
    && is_one_slot (part_of bytes 0x40 8)

-- whether there is no message: its length, its section sectors and its slot are zero
unfoldable pub has_no_message : List ℕ → Bool
has_no_message bytes =
    (number16 bytes 0x14 == 0) && (number16 bytes 0x16 == 0) && is_zero (part_of bytes 0x28 8)

-- whether there is a message: a length, 1 to 3 section sectors and a slot
unfoldable pub has_whole_message : List ℕ → Bool
has_whole_message bytes =
    not (number16 bytes 0x14 == 0)
    && is_between 1 3 (number16 bytes 0x16)
    && is_one_slot (part_of bytes 0x28 8)

-- whether the message is there as a whole, or not at all
unfoldable pub has_message : List ℕ → Bool
has_message bytes = if has_no_message bytes then true else has_whole_message bytes

-- whether the bytes of the three unused table slots, and the 30 after the default entry, are zero
unfoldable pub has_zeros : List ℕ → Bool
has_zeros bytes = is_zero (part_of bytes 0x48 24) && is_zero (part_of bytes 0x62 30)

-- whether each field after the version is as the format has it
unfoldable pub is_whole : List ℕ → Bool
is_whole bytes =
    has_options bytes && has_names bytes && has_slots bytes && has_message bytes && has_zeros bytes

-- the timeout in tenths of a second, unless there is none
unfoldable pub timeout_of : List ℕ → Option ℕ
timeout_of bytes = if number16 bytes 0x10 == 0xFFFF then None else Some (number16 bytes 0x10)

-- the slots of the three table sectors
unfoldable pub table_slots : List ℕ → List Slot
table_slots bytes =
    slot_of (part_of bytes 0x30 8)
    ∷ (slot_of (part_of bytes 0x38 8) ∷ (slot_of (part_of bytes 0x40 8) ∷ []))

-- the fields of a boot sector
unfoldable pub boot_of : List ℕ → BootSector
boot_of bytes = record {
  version = number16 bytes 6;
  time = number32 bytes 8;
  prompt = number16 bytes 0x0C == 1;
  delay = number16 bytes 0x0E;
  timeout = timeout_of bytes;
  names = number16 bytes 0x12;
  default_entry = number16 bytes 0x60;
  message_length = number16 bytes 0x14;
  message_chain = number16 bytes 0x16;
  line = slot_of (part_of bytes 0x18 8);
  zero_sector = slot_of (part_of bytes 0x20 8);
  message = some_slot (part_of bytes 0x28 8);
  table = table_slots bytes;
}

-- what a sector says as a boot sector: the first fault in this order, or its fields
unfoldable pub boot_at : List ℕ → Result BootSector MapFault
boot_at bytes =
    if not (has_signature bytes) then Err NotOurs else
    if not (number16 bytes 6 == 1) then Err (BadVersion (number16 bytes 6)) else
    if not (is_whole bytes) then Err (BadTable 255) else
    Ok (boot_of bytes)

-- the number of the prompt's flag
abbrev pub flag_number : Bool → ℕ
flag_number prompt = if prompt then 1 else 0

-- the number of a timeout
abbrev pub timeout_number : Option ℕ → ℕ
timeout_number None = 0xFFFF
timeout_number (Some tenths) = tenths

-- the 128 bytes of the fields
unfoldable pub field_bytes : BootSector → List ℕ
field_bytes boot =
    first_bytes
    ++ bytes16 boot.version
    ++ bytes32 boot.time
    ++ bytes16 (flag_number boot.prompt)
    ++ bytes16 boot.delay
    ++ bytes16 (timeout_number boot.timeout)
    ++ bytes16 boot.names
    ++ bytes16 boot.message_length
    ++ bytes16 boot.message_chain
    ++ slot_bytes boot.line
    ++ slot_bytes boot.zero_sector
    ++ optional_bytes boot.message
    ++ concat (map slot_bytes boot.table)
    ++ replicate 24 0
    ++ bytes16 boot.default_entry
    ++ replicate 30 0

-- the sector with these fields, with bytes 128 to 439 of one that has code, and with bytes 440 to 509 of
-- the one that was there before
unfoldable pub merged_sector : BootSector → List ℕ → List ℕ → List ℕ
merged_sector boot code present =
    field_bytes boot ++ part_of code 128 312 ++ part_of present 440 70 ++ last_bytes
