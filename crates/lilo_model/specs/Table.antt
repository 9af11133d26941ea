-- The table of a map: descriptors of 64 bytes, eight in each sector. The layout of a descriptor is this
-- project's own. An entry is counted from 0.
use Rattle.std.specs.Prelude.{ℕ, zero, suc, ◌-◌, ◌*◌, ◌/◌, ◌%◌, ◌==◌, nat_lt, Bool, not, ◌&&◌, ◌||◌, if◌then◌else◌, bit_and, List, [], ◌∷◌, ◌++◌, length}
use Rattle.std.specs.Prelude.{bytes_eq, slice_index_or, Option, Some, None, is_some, Result, Ok, Err}
use Rattle.std.specs.List.{list_all}
use Rattle.lilo_model.specs.Bytes.{part_of, number16, number32, bytes16, bytes32, filled_bytes, is_zero, is_between, name_in}
use Rattle.lilo_model.specs.Slots.{Slot, is_one_slot, slot_of, some_slot, slot_bytes, optional_bytes}
use Rattle.lilo_model.specs.BootSector.{MapFault, BadTable}

-- what an entry says
pub record Descriptor : Type 0 where
  pub name : List ℕ
  pub flags : ℕ
  -- the video mode
  pub vga : ℕ
  -- the bytes of the main file, which is a kernel or another system's boot sector
  pub main_length : ℕ
  pub initrd_length : ℕ
  -- the sector of its middle text
  pub options : Slot
  -- the first section sector of the main file
  pub first : Slot
  -- the first section sector of the initrd
  pub initrd : Option Slot
  -- the section sectors of the main file
  pub chain : ℕ
  pub initrd_chain : ℕ
  -- the sector of its fallback and its password
  pub extra : Option Slot

-- the flag of another system's boot sector
abbrev pub other_flag : ℕ
other_flag = 0x01

-- the flag of a password
abbrev pub password_flag : ℕ
password_flag = 0x02

-- the flag of a password that is asked only for a line of the user's own
abbrev pub restricted_flag : ℕ
restricted_flag = 0x04

-- the flag of a line that is kept as the default one
abbrev pub lock_flag : ℕ
lock_flag = 0x08

-- the flag of a line that is the default one after the next start
abbrev pub fallback_flag : ℕ
fallback_flag = 0x10

-- the flag of a video mode
abbrev pub video_flag : ℕ
video_flag = 0x20

-- the flag of an initrd
abbrev pub initrd_flag : ℕ
initrd_flag = 0x40

-- the flag of a partition table that goes with another system's boot sector
abbrev pub table_flag : ℕ
table_flag = 0x80

-- whether a flag is set in a number of flags
abbrev pub has_flag : ℕ → ℕ → Bool
has_flag flags flag = not (bit_and flags flag == 0)

-- whether a flag of a descriptor is set
unfoldable pub is_set : List ℕ → ℕ → Bool
is_set bytes flag = has_flag (number16 bytes 16) flag

-- the name of a descriptor
unfoldable pub entry_name : List ℕ → List ℕ
entry_name bytes = name_in bytes 0 15

-- whether all bytes are 0x21 to 0x7E
unfoldable pub is_printable : List ℕ → Bool
is_printable text = list_all (λ byte. is_between 0x21 0x7E byte) text

-- whether the name isn't empty, all of it is printable, and zeros fill its 16 bytes
unfoldable pub is_name : List ℕ → Bool
is_name bytes =
    not (length (entry_name bytes) == 0)
    && is_printable (entry_name bytes)
    && is_zero (part_of bytes (length (entry_name bytes)) (16 - length (entry_name bytes)))

-- whether the flags are known ones that go together
unfoldable pub has_flags : List ℕ → Bool
has_flags bytes =
    nat_lt (number16 bytes 16) 0x100
    && not (is_set bytes lock_flag && is_set bytes fallback_flag)
    && (not (is_set bytes restricted_flag) || is_set bytes password_flag)
    && (not (is_set bytes table_flag) || is_set bytes other_flag)

-- whether another system has neither video mode nor initrd, and a video mode has its flag
unfoldable pub has_video : List ℕ → Bool
has_video bytes =
    not (is_set bytes other_flag && (is_set bytes video_flag || is_set bytes initrd_flag))
    && (is_set bytes video_flag || (number16 bytes 18 == 0))

-- whether the main file of another system is its boot sector, with a table where the flag says so
unfoldable pub has_length : List ℕ → Bool
has_length bytes =
    if not (is_set bytes other_flag) then not (number32 bytes 20 == 0) else
    if is_set bytes table_flag then number32 bytes 20 == 1024 else
    number32 bytes 20 == 512

-- whether the main file has a length, a section sector, its slot and the slot of its options
unfoldable pub has_main : List ℕ → Bool
has_main bytes =
    has_length bytes
    && not (number16 bytes 52 == 0)
    && is_one_slot (part_of bytes 28 8)
    && is_one_slot (part_of bytes 36 8)

-- whether the initrd has its slot and a section sector, or there is none and its fields are zero
unfoldable pub has_initrd : List ℕ → Bool
has_initrd bytes =
    if is_set bytes initrd_flag
    then is_one_slot (part_of bytes 44 8) && not (number16 bytes 54 == 0)
    else (is_zero (part_of bytes 44 8) && (number16 bytes 54 == 0) && (number32 bytes 24 == 0))

-- whether the extra sector is there where a password or a fallback needs it, and only there
unfoldable pub has_extra : List ℕ → Bool
has_extra bytes =
    if is_set bytes password_flag || is_set bytes fallback_flag
    then is_one_slot (part_of bytes 56 8)
    else is_zero (part_of bytes 56 8)

-- whether 64 bytes are a descriptor, whatever the others are
unfoldable pub is_entry : List ℕ → Bool
is_entry bytes =
    is_name bytes
    && (has_flags bytes && has_video bytes)
    && has_main bytes
    && has_initrd bytes
    && has_extra bytes

-- the fields of a descriptor
unfoldable pub descriptor_of : List ℕ → Descriptor
descriptor_of bytes = record {
  name = entry_name bytes;
  flags = number16 bytes 16;
  vga = number16 bytes 18;
  main_length = number32 bytes 20;
  initrd_length = number32 bytes 24;
  options = slot_of (part_of bytes 28 8);
  first = slot_of (part_of bytes 36 8);
  initrd = some_slot (part_of bytes 44 8);
  chain = number16 bytes 52;
  initrd_chain = number16 bytes 54;
  extra = some_slot (part_of bytes 56 8);
}

-- the 64 bytes of an entry
unfoldable pub entry_bytes : List (List ℕ) → ℕ → List ℕ
entry_bytes sectors entry = part_of (slice_index_or sectors (entry / 8) []) (entry % 8 * 64) 64

-- a number, or else another
abbrev pub or_else : Option ℕ → Option ℕ → Option ℕ
or_else (Some n) other = Some n
or_else None other = other

-- the least number below another that passes a test
abbrev pub first_below : (ℕ → Bool) → ℕ → Option ℕ
first_below test zero = None
first_below test (suc n) = or_else (first_below test n) (if test n then Some n else None)

-- whether two entries have one name
unfoldable pub same_name : List (List ℕ) → ℕ → ℕ → Bool
same_name sectors entry other =
    bytes_eq (entry_name (entry_bytes sectors other)) (entry_name (entry_bytes sectors entry))

-- whether the name of an entry is in an earlier one
unfoldable pub repeats : List (List ℕ) → ℕ → Bool
repeats sectors entry = is_some (first_below (same_name sectors entry) entry)

-- whether an entry breaks the format
unfoldable pub breaks : List (List ℕ) → ℕ → Bool
breaks sectors entry = not (is_entry (entry_bytes sectors entry)) || repeats sectors entry

-- the descriptors of the entries below a number, in order
abbrev pub descriptors_of : List (List ℕ) → ℕ → List Descriptor
descriptors_of sectors zero = []
descriptors_of sectors (suc n) = descriptors_of sectors n ++ (descriptor_of (entry_bytes sectors n) ∷ [])

-- the fault of the first entry that breaks the format, or the descriptors
abbrev pub table_or_fault : Option ℕ → ℕ → List (List ℕ) → Result (List Descriptor) MapFault
table_or_fault (Some entry) names sectors = Err (BadTable entry)
table_or_fault None names sectors = Ok (descriptors_of sectors names)

-- what sectors say as a table of some names: the first entry that breaks the format, or the descriptors
unfoldable pub table_at : ℕ → List (List ℕ) → Result (List Descriptor) MapFault
table_at names sectors = table_or_fault (first_below (breaks sectors) names) names sectors

-- the 64 bytes of a descriptor
unfoldable pub descriptor_bytes : Descriptor → List ℕ
descriptor_bytes entry =
    filled_bytes 16 entry.name
    ++ bytes16 entry.flags
    ++ bytes16 entry.vga
    ++ bytes32 entry.main_length
    ++ bytes32 entry.initrd_length
    ++ slot_bytes entry.options
    ++ slot_bytes entry.first
    ++ optional_bytes entry.initrd
    ++ bytes16 entry.chain
    ++ bytes16 entry.initrd_chain
    ++ optional_bytes entry.extra
