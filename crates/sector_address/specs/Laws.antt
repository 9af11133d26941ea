-- What the definitions of slots say, as laws.
use Rattle.std.specs.Prelude.{◌≡◌, ◌≤◌, ◌<◌, ◌+◌, ◌%◌, ℕ, List, length, slice_index, Some, Ok, IfOk}
use Rattle.lilo_model.specs.Disks.{Geometry, IsGeometry}
use Rattle.lilo_model.specs.Slots.{Mode, ChsMode, LinearMode, Lba32Mode, Chs, Slot, last_cylinder, to_chs, to_lba, sector_at, slot_at, slot_bytes, slot_make}
use Rattle.sector_address.specs.Whole.{IsSlot}

-- a sector's number is that of its cylinder, head and sector (INT 13h)
abbrev pub NumberLaw : Type 0
NumberLaw =
    (geometry : Geometry) (number cylinder head sector : ℕ)
    → IsGeometry geometry → to_chs geometry number ≡ Ok (Chs cylinder head sector)
    → to_lba geometry cylinder head sector ≡ Ok number

-- a cylinder, head and sector are those of their number, up to the last cylinder that INT 13h can name
abbrev pub CylinderLaw : Type 0
CylinderLaw =
    (geometry : Geometry) (cylinder head sector number : ℕ)
    → cylinder ≤ last_cylinder → to_lba geometry cylinder head sector ≡ Ok number
    → to_chs geometry number ≡ Ok (Chs cylinder head sector)

-- sectors that a slot of a mode can name: by cylinder, head and sector they lie on one track
abbrev pub LieTogether : Mode → Geometry → ℕ → ℕ → Type 0
LieTogether ChsMode geometry sector count = sector % geometry.sectors + count ≤ geometry.sectors
LieTogether LinearMode geometry sector count = Unit {0}
LieTogether Lba32Mode geometry sector count = Unit {0}

-- a slot that is made names the sectors that it was made for
abbrev pub MadeSectorsLaw : Type 0
MadeSectorsLaw =
    (mode : Mode) (geometry : Geometry) (disk sector count index : ℕ) (slot : Slot)
    → IsGeometry geometry → LieTogether mode geometry sector count → index < count
    → slot_make mode geometry disk sector count ≡ Ok slot
    → sector_at geometry slot index ≡ Ok (sector + index)

-- each number of a list is one of a byte
abbrev pub AreBytes : List ℕ → Type 0
AreBytes bytes = (at : ℕ) → slice_index bytes at < 256

-- a slot that is made is one that eight bytes can name
abbrev pub MakeLaw : Type 0
MakeLaw =
    (mode : Mode) (geometry : Geometry) (disk sector count : ℕ)
    → IsGeometry geometry → disk ≤ 3 → 1 ≤ count → count ≤ 127
    → IfOk (slot_make mode geometry disk sector count) IsSlot

-- a slot's eight bytes are that slot
abbrev pub EncodeLaw : Type 0
EncodeLaw = (slot : Slot) → IsSlot slot → slot_at (slot_bytes slot) ≡ Ok (Some slot)

-- the same slot has no other eight bytes
abbrev pub OneSpellingLaw : Type 0
OneSpellingLaw =
    (bytes other : List ℕ) (slot : Slot)
    → length bytes ≡ 8 → AreBytes bytes
    → length other ≡ 8 → AreBytes other
    → slot_at bytes ≡ Ok (Some slot) → slot_at other ≡ Ok (Some slot)
    → bytes ≡ other
