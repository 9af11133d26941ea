-- Which sectors a writer of files may write, and what a Clear map has of it.
use Rattle.std.specs.Prelude.{◌≡◌, ◌≢◌, ◌<◌, ◌≤◌, ◌⊎◌, ℕ, ◌+◌, ◌*◌, Bool, true, List, length, All, Option}
use Rattle.disk_trait.specs.Past.{Past}
use Rattle.disk_trait.specs.Moments.{now, IsQuiet, LeavesOnly}
use Rattle.disk_trait.specs.NotWritten.{NotWritten}
use Rattle.lilo_model.specs.Disks.{Image, Machine, Span, DiskSector, bytes_at, with_sector}
use Rattle.lilo_model.specs.MinixLayout.{table_start, table_blocks, super_sector}
use Rattle.lilo_model.specs.MinixParts.{Volume, Pointer, parts_of, is_directory}
use Rattle.lilo_model.specs.MinixNames.{Refers, IsSound}
use Rattle.minix_change_laws.specs.Beside.{IsOutside, SoundAsIn}
use Rattle.lilo_model.specs.Mapped.{mapped_sectors}
use Rattle.lilo_model.specs.Clear.{Clear, IsOfZone}
use Rattle.install_laws.specs.Boots.{SparesMapped}

-- a named directory refers to a zone, as one of its own or on the way to one
pub record IsOfDirectory (volume : Volume) (image : Image) (zone : ℕ) : Type 0 where
  pub number : ℕ
  pub at : Pointer
  pub refers : Refers volume.layout (parts_of volume image) number at zone
  pub is : is_directory ((parts_of volume image).node number) ≡ true

-- a sector of a volume that a writer of files may write: one of the bitmaps or of the inode table, of a directory, or of
-- a chosen zone
abbrev pub MayBeWritten : Volume → Image → (ℕ → Bool) → ℕ → Type 0
MayBeWritten volume image chosen sector =
    ((super_sector ≤ sector) × (sector < 2 * (table_start volume.layout + table_blocks volume.layout)))
    ⊎ ((zone : ℕ) × IsOfZone zone sector × ((chosen zone ≡ true) ⊎ IsOfDirectory volume image zone))

-- a place is one of them
pub record IsWritable (volume : Volume) (image : Image) (chosen : ℕ → Bool) (place : DiskSector) : Type 0 where
  pub sector : ℕ
  pub inside : sector < 2 * volume.layout.zones
  pub is : place ≡ record { disk = volume.span.disk; sector = volume.span.start + sector }
  pub may : MayBeWritten volume image chosen sector

-- a run writes no other sector
abbrev pub WritesOnly : Volume → (ℕ → Bool) → Option Past → Option Past → Type 0
WritesOnly volume chosen old new =
    LeavesOnly old new (λ c. (place : DiskSector) → (IsWritable volume (now old) chosen place → ⊥) → bytes_at c place ≡ bytes_at (now old) place)

-- none of some sectors is of a chosen zone
abbrev pub AreAvoided : Volume → (ℕ → Bool) → List DiskSector → Type 0
AreAvoided volume chosen places =
    All (λ place. (zone sector : ℕ) → chosen zone ≡ true → IsOfZone zone sector
    → place ≡ record { disk = volume.span.disk; sector = volume.span.start + sector } → ⊥) places

-- such a run spares the sectors of a Clear map that its chosen zones avoid
abbrev pub SparesLaw : Type 0
SparesLaw =
    (volume : Volume) (machine : Machine) (span : Span) (chosen : ℕ → Bool) (old new : Option Past)
    → Clear volume (now old) machine span → AreAvoided volume chosen (mapped_sectors (now old) machine span)
    → WritesOnly volume chosen old new → SparesMapped machine span old new

-- a write to a sector that isn't the volume's leaves it sound, with the same Names
abbrev pub OutsideLaw : Type 0
OutsideLaw =
    (volume : Volume) (old : Image) (disk sector : ℕ) (bytes : List ℕ)
    → IsSound volume old → IsOutside volume disk sector
    → SoundAsIn volume old (with_sector old (record { disk = disk; sector = sector }) bytes)

-- a sector of a disk isn't one of a volume's past its block 0
abbrev pub IsApartSector : Volume → ℕ → ℕ → Type 0
IsApartSector volume disk sector =
    (disk ≢ volume.span.disk)
    ⊎ ((sector < volume.span.start + 2) ⊎ (volume.span.start + 2 * volume.layout.zones ≤ sector))

-- and so does one to such a sector: a boot sector may lie in block 0
abbrev pub ApartWriteLaw : Type 0
ApartWriteLaw =
    (volume : Volume) (old : Image) (disk sector : ℕ) (bytes : List ℕ)
    → IsSound volume old → length bytes ≡ 512 → IsApartSector volume disk sector
    → SoundAsIn volume old (with_sector old (record { disk = disk; sector = sector }) bytes)

-- a run that begins quiet leaves what it found in each sector that it doesn't write; some sector is one of them
abbrev pub UnwrittenLaw : Type 0
UnwrittenLaw =
    (old new : Option Past) (disk sector : ℕ) → IsQuiet old → NotWritten old new disk sector
    → LeavesOnly old new (λ c. (d s : ℕ) → NotWritten old new d s → c d s ≡ now old d s)

-- so one that writes no event outside of what a writer of files may write writes only that
abbrev pub WritesOnlyLaw : Type 0
WritesOnlyLaw =
    (volume : Volume) (chosen : ℕ → Bool) (old new : Option Past)
    → IsQuiet old → ((place : DiskSector) → (IsWritable volume (now old) chosen place → ⊥) → NotWritten old new place.disk place.sector)
    → WritesOnly volume chosen old new
