-- Clear: no sector that a boot may look at lies where a writer of files writes (this project's own; what lies where:
-- Minix file system).
use Rattle.std.specs.Prelude.{◌≡◌, ◌<◌, ◌≤◌, ◌⊎◌, ℕ, ◌+◌, ◌-◌, ◌*◌, false, length, All}
use Rattle.lilo_model.specs.Disks.{Image, Machine, Span, DiskSector}
use Rattle.lilo_model.specs.MinixLayout.{table_start, table_blocks, super_sector, zone_sector}
use Rattle.lilo_model.specs.MinixParts.{Volume, Pointer, parts_of, is_directory}
use Rattle.lilo_model.specs.MinixNames.{Refers}
use Rattle.lilo_model.specs.Mapped.{mapped_sectors}

-- what a pointer leads to is an indirect zone: further numbers lie below it
abbrev pub IsIndirect : Pointer → Type 0
IsIndirect at = length at.trail < at.top - 6

-- one of the two sectors of a zone, counted from the start of the volume
abbrev pub IsOfZone : ℕ → ℕ → Type 0
IsOfZone zone sector = (zone_sector zone ≡ sector) ⊎ (zone_sector zone + 1 ≡ sector)

-- a sector of a volume is one of a file's bytes, or of nothing with a name
pub record IsPlain (volume : Volume) (image : Image) (sector : ℕ) : Type 0 where
  -- it lies before the superblock, or after the inode table
  pub tables : (sector < super_sector) ⊎ (2 * (table_start volume.layout + table_blocks volume.layout) ≤ sector)
  -- it lies in no zone of a directory, and in no indirect one
  pub zones : (number : ℕ) (at : Pointer) (zone : ℕ) → Refers volume.layout (parts_of volume image) number at zone
      → IsOfZone zone sector → (is_directory ((parts_of volume image).node number) ≡ false) × (IsIndirect at → ⊥)

-- a place is on another disk, outside a volume, or plain
abbrev pub IsClearPlace : Volume → Image → DiskSector → Type 0
IsClearPlace volume image place =
    (sector : ℕ) → place ≡ record { disk = volume.span.disk; sector = volume.span.start + sector }
    → sector < 2 * volume.layout.zones → IsPlain volume image sector

-- Clear: each of the Mapped sectors is
abbrev pub Clear : Volume → Image → Machine → Span → Type 0
Clear volume image machine span = All (IsClearPlace volume image) (mapped_sectors image machine span)
