-- What may be written on a Minix volume without touching what has a name (a rule of this project's own; the
-- layouts: Minix file system, versions 1 and 2). Sectors are counted from the start of the volume.
use Rattle.std.specs.Prelude.{◌≡◌, ◌≢◌, ◌<◌, ◌≤◌, ℕ, ◌+◌, ◌*◌, ◌%◌, ◌⊎◌, ◌↔◌, true, List, length}
use Rattle.lilo_model.specs.Bytes.{part_of}
use Rattle.lilo_model.specs.Disks.{Image}
use Rattle.lilo_model.specs.MinixLayout.{Super, inode_size, table_start, inode_place, zone_sector, super_sector}
use Rattle.lilo_model.specs.MinixParts.{Volume, Pointer, sector_of, bit, inode_mark_sector, zone_bit, zone_mark_sector, inode_part, parts_of}
use Rattle.lilo_model.specs.MinixNames.{reached, names_in, Named, Refers, IsSound}

-- in an image an inode is the root of a volume, or has a name
abbrev pub NamedIn : Volume → Image → ℕ → Type 0
NamedIn volume image number = Named volume.layout (parts_of volume image) number

-- there a named inode refers to a zone
abbrev pub RefersIn : Volume → Image → ℕ → Pointer → ℕ → Type 0
RefersIn volume image number at zone = Refers volume.layout (parts_of volume image) number at zone

-- one of the two sectors of a zone
abbrev pub IsOfZone : ℕ → ℕ → Type 0
IsOfZone zone sector = (zone_sector zone ≡ sector) ⊎ (zone_sector zone + 1 ≡ sector)

-- bytes that may be in a sector without touching what has a name in an image
pub record Harmless (volume : Volume) (old : Image) (sector : ℕ) (bytes : List ℕ) : Type 0 where
  pub long : length bytes ≡ 512
  -- the superblock stays
  pub super : super_sector ≡ sector → bytes ≡ sector_of volume old sector
  -- the bytes of a named inode stay, whatever its neighbours become
  pub nodes : (number : ℕ) → NamedIn volume old number → (inode_place volume.layout number).sector ≡ sector
      → part_of bytes (inode_place volume.layout number).at (inode_size volume.layout.kind)
      ≡ inode_part volume old (inode_place volume.layout number)
  -- a zone that is referred to stays
  pub zones : (number : ℕ) (at : Pointer) (zone : ℕ) → RefersIn volume old number at zone → IsOfZone zone sector → bytes ≡ sector_of volume old sector
  -- the bitmap bits of these inodes and zones stay set, whatever the others become
  pub marks : (number : ℕ) → NamedIn volume old number → inode_mark_sector number ≡ sector → bit bytes (number % 4096) ≡ true
  pub zone_marks : (number : ℕ) (at : Pointer) (zone : ℕ) → RefersIn volume old number at zone
      → zone_mark_sector volume.layout zone ≡ sector → bit bytes (zone_bit volume.layout zone % 4096) ≡ true

-- an inode is neither the root nor has a name
abbrev pub IsUnnamed : Volume → Image → ℕ → Type 0
IsUnnamed volume image number = NamedIn volume image number → ⊥

-- no named inode refers to a zone
abbrev pub IsUnused : Volume → Image → ℕ → Type 0
IsUnused volume image zone = (number : ℕ) (at : Pointer) → RefersIn volume image number at zone → ⊥

-- an inode that a volume has
abbrev pub IsInode : Super → ℕ → Type 0
IsInode super number = (0 < number) × (number ≤ super.inodes)

-- a data zone
abbrev pub IsDataZone : Super → ℕ → Type 0
IsDataZone super zone = (super.first ≤ zone) × (zone < super.zones)

-- a sector of one of the two bitmaps
abbrev pub IsOfBitmaps : Super → ℕ → Type 0
IsOfBitmaps super sector = (4 ≤ sector) × (sector < 2 * table_start super)

-- a sector of a disk isn't one of the volume's
abbrev pub IsOutside : Volume → ℕ → ℕ → Type 0
IsOutside volume disk sector =
    (disk ≢ volume.span.disk)
    ⊎ ((sector < volume.span.start) ⊎ (volume.span.start + 2 * volume.layout.zones ≤ sector))

-- an image differs from another in the volume's sectors alone, and there by harmless bytes
pub record Beside (volume : Volume) (old image : Image) : Type 0 where
  pub inside : (sector : ℕ) → sector < 2 * volume.layout.zones → Harmless volume old sector (sector_of volume image sector)
  pub outside : (disk sector : ℕ) → IsOutside volume disk sector → image disk sector ≡ old disk sector

-- the volume is sound in an image, with the same Names as in another
pub record SoundAsIn (volume : Volume) (old image : Image) : Type 0 where
  pub sound : IsSound volume image
  pub same : (path : List (List ℕ)) → names_in volume image path ≡ names_in volume old path

-- in an image the paths of a volume lead where they led in another, to the same inodes, which refer to the same
-- zones
pub record NamedAsIn (volume : Volume) (old image : Image) : Type 0 where
  pub leads : (path : List (List ℕ)) → reached volume.layout (parts_of volume image) path ≡ reached volume.layout (parts_of volume old) path
  pub named : (number : ℕ) → NamedIn volume image number ↔ NamedIn volume old number
  pub nodes : (number : ℕ) → NamedIn volume old number → (parts_of volume image).node number ≡ (parts_of volume old).node number
  pub refers : (number : ℕ) (at : Pointer) (zone : ℕ) → RefersIn volume image number at zone ↔ RefersIn volume old number at zone

-- a volume's inodes, data zones and bitmap bits lie in sectors of the volume, the bitmap bits in the bitmaps
pub record Regions (super : Super) : Type 0 where
  pub marks : (number : ℕ) → IsInode super number → IsOfBitmaps super (inode_mark_sector number)
  pub zone_marks : (zone : ℕ) → IsDataZone super zone → IsOfBitmaps super (zone_mark_sector super zone)
  pub bitmaps : (sector : ℕ) → IsOfBitmaps super sector → sector < 2 * super.zones
  pub places : (number : ℕ) → IsInode super number → (inode_place super number).sector < 2 * super.zones
  pub zones : (zone sector : ℕ) → IsDataZone super zone → IsOfZone zone sector → sector < 2 * super.zones
