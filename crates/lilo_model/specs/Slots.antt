-- A slot names up to 127 neighbouring sectors of a disk in eight bytes: the mode, the BIOS device, the
-- count, a zero byte and four address bytes. The eight bytes are this project's own; the address in mode 1,
-- and what a cylinder, head and sector are, come from INT 13h.
use Rattle.std.specs.Prelude.{ℕ, ◌+◌, ◌-◌, ◌*◌, ◌/◌, ◌%◌, ◌==◌, nat_le, nat_lt, Bool, true, false, not, ◌&&◌, ◌||◌, if◌then◌else◌, List, [], ◌∷◌, ◌++◌, map}
use Rattle.std.specs.Prelude.{slice_index, Option, Some, None, Result, Ok, Err}
use Rattle.std.specs.List.{range_with_len}
use Rattle.lilo_model.specs.Bytes.{number32, bytes32, is_zero, is_between}
use Rattle.lilo_model.specs.Disks.{Geometry, Machine, DiskSector}

-- where the first sector of a slot is
pub data Address : Type 0 where
  -- by cylinder, head and sector
  Chs : (cylinder head sector : ℕ) → Address
  -- by its number on the disk, and read by cylinder, head and sector
  Linear : (number : ℕ) → Address
  -- by its number on the disk, and read so
  Lba32 : (number : ℕ) → Address

-- how a slot is to say where its sectors are
pub data Mode : Type 0 where
  ChsMode : Mode
  LinearMode : Mode
  Lba32Mode : Mode

-- count sectors of a disk, from an address on
pub record Slot : Type 0 where
  pub disk : ℕ
  pub count : ℕ
  pub address : Address

-- why an address or a slot is refused
pub data AddressFault : Type 0 where
  -- its last cylinder is above 1023
  Cylinder : (cylinder : ℕ) → AddressFault
  -- its last sector's number takes more than 32 bits
  TooFar : (sector : ℕ) → AddressFault
  -- the eight bytes are no slot
  BadSlot : AddressFault
  -- it names no sector
  NotFound : AddressFault

-- ---- eight bytes

-- whether mode, device and count are in their ranges, and the byte after them is zero
unfoldable pub has_ranges : List ℕ → Bool
has_ranges bytes =
    is_between 1 3 (slice_index bytes 0)
    && is_between 0x80 0x83 (slice_index bytes 1)
    && is_between 1 127 (slice_index bytes 2)
    && (slice_index bytes 3 == 0)

-- whether the address is one of its mode: in mode 1 the sector isn't 0, and the last byte is zero
unfoldable pub has_address : List ℕ → Bool
has_address bytes =
    not (slice_index bytes 0 == 1) || (not (slice_index bytes 4 % 64 == 0) && (slice_index bytes 7 == 0))

-- whether eight bytes are a slot that is there
unfoldable pub is_slot : List ℕ → Bool
is_slot bytes = has_ranges bytes && has_address bytes

-- whether eight bytes are a slot of one sector
unfoldable pub is_one_slot : List ℕ → Bool
is_one_slot bytes = is_slot bytes && (slice_index bytes 2 == 1)

-- the address by cylinder, head and sector: the sector in bits 0 to 5 of the first byte, bits 8 and 9 of
-- the cylinder above it, then the cylinder's other bits, then the head
unfoldable pub chs_of : List ℕ → Address
chs_of bytes =
    Chs
    (slice_index bytes 4 / 64 * 256 + slice_index bytes 5)
    (slice_index bytes 6)
    (slice_index bytes 4 % 64)

-- the address, by the mode
unfoldable pub address_of : List ℕ → Address
address_of bytes =
    if slice_index bytes 0 == 1 then chs_of bytes else
    if slice_index bytes 0 == 2 then Linear (number32 bytes 4) else
    Lba32 (number32 bytes 4)

-- the slot that eight bytes are
unfoldable pub slot_of : List ℕ → Slot
slot_of bytes = record {
  disk = slice_index bytes 1 - 0x80;
  count = slice_index bytes 2;
  address = address_of bytes;
}

-- the slot that eight bytes are, unless they are all zero
unfoldable pub some_slot : List ℕ → Option Slot
some_slot bytes = if is_zero bytes then None else Some (slot_of bytes)

-- what eight bytes say: the end, a slot, or nothing
unfoldable pub slot_at : List ℕ → Result (Option Slot) AddressFault
slot_at bytes =
    if is_zero bytes then Ok None else
    if is_slot bytes then Ok (Some (slot_of bytes)) else
    Err BadSlot

-- the number of a mode
abbrev pub mode_number : Address → ℕ
mode_number (Chs cylinder head sector) = 1
mode_number (Linear number) = 2
mode_number (Lba32 number) = 3

-- the four bytes of an address
abbrev pub address_bytes : Address → List ℕ
address_bytes (Chs cylinder head sector) =
    (cylinder / 256 * 64 + sector) ∷ ((cylinder % 256) ∷ (head ∷ (0 ∷ [])))
address_bytes (Linear number) = bytes32 number
address_bytes (Lba32 number) = bytes32 number

-- the eight bytes of a slot
unfoldable pub slot_bytes : Slot → List ℕ
slot_bytes slot =
    (mode_number slot.address ∷ ((0x80 + slot.disk) ∷ (slot.count ∷ (0 ∷ [])))) ++ address_bytes slot.address

-- the eight bytes of a slot, or zeros
abbrev pub optional_bytes : Option Slot → List ℕ
optional_bytes None = 0 ∷ (0 ∷ (0 ∷ (0 ∷ (0 ∷ (0 ∷ (0 ∷ (0 ∷ [])))))))
optional_bytes (Some slot) = slot_bytes slot

-- ---- sectors

-- the last cylinder that a BIOS reaches
abbrev pub last_cylinder : ℕ
last_cylinder = 1023

-- the cylinder of a sector
abbrev pub cylinder_of : Geometry → ℕ → ℕ
cylinder_of geometry number = number / (geometry.heads * geometry.sectors)

-- the cylinder, head and sector of a sector's number
unfoldable pub to_chs : Geometry → ℕ → Result Address AddressFault
to_chs geometry number =
    if nat_lt last_cylinder (cylinder_of geometry number) then Err (Cylinder (cylinder_of geometry number)) else
    Ok
    (Chs
    (cylinder_of geometry number)
    (number / geometry.sectors % geometry.heads)
    (number % geometry.sectors + 1))

-- whether a head and a sector are on the disk
abbrev pub is_on_track : Geometry → ℕ → ℕ → Bool
is_on_track geometry head sector = nat_lt head geometry.heads && is_between 1 geometry.sectors sector

-- the number of a cylinder's, head's and sector's sector
unfoldable pub to_lba : Geometry → ℕ → ℕ → ℕ → Result ℕ AddressFault
to_lba geometry cylinder head sector =
    if is_on_track geometry head sector
    then Ok ((cylinder * geometry.heads + head) * geometry.sectors + (sector - 1))
    else Err NotFound

-- the number of an address's sector some sectors on: a Chs slot stays on its track, and a Linear slot is
-- read by cylinder, head and sector too
abbrev pub number_at : Geometry → Address → ℕ → Result ℕ AddressFault
number_at geometry (Chs cylinder head sector) index =
    if sector == 0 then Err NotFound else to_lba geometry cylinder head (sector + index)
number_at geometry (Linear number) index =
    if nat_le (cylinder_of geometry (number + index)) last_cylinder then Ok (number + index) else Err NotFound
number_at geometry (Lba32 number) index = Ok (number + index)

-- the number of a slot's sector at an index below its count
unfoldable pub sector_at : Geometry → Slot → ℕ → Result ℕ AddressFault
sector_at geometry slot index = number_at geometry slot.address index

-- SectorsOf: the numbers of all sectors of a slot, each by itself
unfoldable pub sectors_of : Geometry → Slot → List (Result ℕ AddressFault)
sectors_of geometry slot = map (sector_at geometry slot) (range_with_len 0 slot.count)

-- a sector's place, where it is below the size of its disk
abbrev pub place_of : Machine → ℕ → Result ℕ AddressFault → Result DiskSector AddressFault
place_of machine disk (Ok sector) =
    if nat_lt sector (machine.size_of disk) then Ok (record { disk = disk; sector = sector }) else Err NotFound
place_of machine disk (Err fault) = Err fault

-- the place on its disk of a slot's sector at an index
unfoldable pub place_at : Machine → Slot → ℕ → Result DiskSector AddressFault
place_at machine slot index =
    place_of machine slot.disk (sector_at (machine.geometry_of slot.disk) slot index)

-- ---- making a slot

-- the address in a mode of a sector that is in its reach
abbrev pub address_in : Mode → Geometry → ℕ → Result Address AddressFault
address_in ChsMode geometry sector = to_chs geometry sector
address_in LinearMode geometry sector = Ok (Linear sector)
address_in Lba32Mode geometry sector = Ok (Lba32 sector)

-- whether a mode speaks of cylinders
abbrev pub has_cylinders : Mode → Bool
has_cylinders ChsMode = true
has_cylinders LinearMode = true
has_cylinders Lba32Mode = false

-- a slot at an address
abbrev pub slot_with : ℕ → ℕ → Result Address AddressFault → Result Slot AddressFault
slot_with disk count (Ok address) = Ok (record { disk = disk; count = count; address = address })
slot_with disk count (Err fault) = Err fault

-- the slot of count sectors whose last one is this
abbrev pub slot_up_to : Mode → Geometry → ℕ → ℕ → ℕ → ℕ → Result Slot AddressFault
slot_up_to mode geometry disk sector count last =
    if has_cylinders mode && nat_lt last_cylinder (cylinder_of geometry last)
    then Err (Cylinder (cylinder_of geometry last))
    else (
    if nat_lt 0xFFFFFFFF last then Err (TooFar last) else
    slot_with disk count (address_in mode geometry sector)
    )

-- the slot of count sectors from a number on, in a mode
unfoldable pub slot_make : Mode → Geometry → ℕ → ℕ → ℕ → Result Slot AddressFault
slot_make mode geometry disk sector count =
    slot_up_to mode geometry disk sector count (sector + count - 1)

-- whether an address follows count sectors at another of the same mode and, by cylinder, head and
-- sector, more sectors from it on stay on the track
abbrev pub follows : Geometry → Address → ℕ → Address → ℕ → Bool
follows geometry (Chs cylinder head sector) count (Chs cylinder' head' sector') more =
    (cylinder == cylinder')
    && (head == head')
    && (sector + count == sector')
    && nat_le (sector' + more) (geometry.sectors + 1)
follows geometry (Linear number) count (Linear number') more = number + count == number'
follows geometry (Lba32 number) count (Lba32 number') more = number + count == number'
follows geometry _ count _ more = false

-- CouldBeOne: whether one slot could name the sectors of two neighbouring ones
unfoldable pub could_be_one : Geometry → Slot → Slot → Bool
could_be_one geometry slot other =
    (slot.disk == other.disk)
    && nat_le (slot.count + other.count) 127
    && follows geometry slot.address slot.count other.address other.count
