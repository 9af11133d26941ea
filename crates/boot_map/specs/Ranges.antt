-- What a caller may rest on in the fields that were read, and what a writer asks of them.
use Rattle.std.specs.Prelude.{◌≡◌, ◌≤◌, true, ◌||◌, if◌then◌else◌, is_some, length, All, IfSome}
use Rattle.lilo_model.specs.Table.{other_flag, password_flag, fallback_flag, initrd_flag, table_flag, has_flag}
use Rattle.sector_address.specs.View.{slot_view}
use Rattle.sector_address.specs.Whole.{IsSlot}
use Rattle.sector_address.specs.declared.slot.Slot.{Slot}
use Rattle.boot_map.specs.declared.boot_sector.BootSector.{BootSector}
use Rattle.boot_map.specs.declared.descriptor.Descriptor.{Descriptor}
use Rattle.boot_map.specs.declared.default_line.DefaultLine.{DefaultLine}
use Rattle.boot_map.specs.declared.default_line.DefaultLine.TheVariants.{Empty, Once, Kept}

-- a slot is one sector, on one of the disks 0 to 3
abbrev pub IsOneSector : Slot → Type 0
IsOneSector slot = (slot.count ≡ 1) × (slot.disk ≤ 3)

-- the name of a descriptor has 1 to 15 bytes
abbrev pub IsNamed : Descriptor → Type 0
IsNamed entry = (1 ≤ length entry.name.items) × (length entry.name.items ≤ 15)

-- each slot of a descriptor is one sector
pub record HasSectors (entry : Descriptor) : Type 0 where
  pub options : IsOneSector entry.options
  pub first : IsOneSector entry.first
  pub initrd : IfSome entry.initrd IsOneSector
  pub extra : IfSome entry.extra IsOneSector

-- What the flags of a descriptor say of its other fields: an initrd and an extra sector are there exactly where they
-- are flagged, and another system's main file is its boot sector, with a partition table where that is flagged. A
-- main file has a byte.
pub record FitsFlags (entry : Descriptor) : Type 0 where
  pub initrd : is_some entry.initrd ≡ has_flag entry.flags initrd_flag
  pub extra : is_some entry.extra ≡ (has_flag entry.flags password_flag || has_flag entry.flags fallback_flag)
  pub other :
      has_flag entry.flags other_flag ≡ true
      → entry.length ≡ (if has_flag entry.flags table_flag then 1024 else 512)
  pub some : 1 ≤ entry.length

-- a line that is there has 1 to 255 bytes
abbrev pub IsLine : DefaultLine → Type 0
IsLine Empty = Unit
IsLine (Once text) = (1 ≤ length text.items) × (length text.items ≤ 255)
IsLine (Kept text) = (1 ≤ length text.items) × (length text.items ≤ 255)

-- eight bytes can name a slot
abbrev pub IsWritable : Slot → Type 0
IsWritable slot = IsSlot (slot_view slot)

-- a boot sector's slots can be written, and its table has three sectors
pub record HasMapSlots (boot : BootSector) : Type 0 where
  pub line : IsWritable boot.line
  pub zero_sector : IsWritable boot.zero
  pub message : IfSome boot.message IsWritable
  pub table : All IsWritable boot.table.items
  pub three : length boot.table.items ≡ 3

-- the slots of a descriptor can be written
pub record HasEntrySlots (entry : Descriptor) : Type 0 where
  pub options : IsWritable entry.options
  pub first : IsWritable entry.first
  pub initrd : IfSome entry.initrd IsWritable
  pub extra : IfSome entry.extra IsWritable
