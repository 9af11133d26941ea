-- Images of a Minix volume in which bits of waste are clear (a rule of this project's own). Sectors are counted from the
-- start of the volume, and the bits of a sector from 0, the lowest of a byte first.
use Rattle.std.specs.Prelude.{◌≡◌, ◌<◌, ◌⊎◌, ℕ, ◌+◌, ◌*◌, ◌%◌, List, length}
use Rattle.disk_trait.specs.Range.{IsOutside}
use Rattle.lilo_model.specs.Disks.{Image}
use Rattle.lilo_model.specs.MinixParts.{Volume, sector_of, bit, parts_of, inode_mark_sector, zone_bit, zone_mark_sector}
use Rattle.ldisk_model.specs.Waste.{IsWasteZone, IsWasteInode, IsKeptOrFreed}
use Rattle.minix_change_laws.specs.Beside.{IsOfBitmaps}

-- a bit of a sector is that of a zone that is waste in an image
pub record IsWasteZoneBit (volume : Volume) (image : Image) (sector at : ℕ) : Type 0 where
  pub zone : ℕ
  pub waste : IsWasteZone volume.layout (parts_of volume image) zone
  pub there : zone_mark_sector volume.layout zone ≡ sector
  pub is : zone_bit volume.layout zone % 4096 ≡ at

-- it is that of an inode
pub record IsWasteInodeBit (volume : Volume) (image : Image) (sector at : ℕ) : Type 0 where
  pub number : ℕ
  pub waste : IsWasteInode volume.layout (parts_of volume image) number
  pub there : inode_mark_sector number ≡ sector
  pub is : number % 4096 ≡ at

-- it is that of waste
abbrev pub IsWasteBit : Volume → Image → ℕ → ℕ → Type 0
IsWasteBit volume image sector at = IsWasteZoneBit volume image sector at ⊎ IsWasteInodeBit volume image sector at

-- bytes have each bit of a sector as it is in an image, or clear where it is that of waste there
pub record IsCleared (volume : Volume) (old : Image) (sector : ℕ) (bytes : List ℕ) : Type 0 where
  pub long : length bytes ≡ 512
  pub bits : (at : ℕ) → at < 4096
      → IsKeptOrFreed (bit (sector_of volume old sector) at) (bit bytes at) (IsWasteBit volume old sector at)

-- a sector of a disk is none of the volume's bitmaps
abbrev pub IsOffBitmaps : Volume → ℕ → ℕ → Type 0
IsOffBitmaps volume d s = IsOutside volume.span.disk (volume.span.start + 4) (2 * (volume.layout.imap + volume.layout.zmap)) d s

-- an image has so each sector of the bitmaps, and all else as another image
pub record HasCleared (volume : Volume) (old image : Image) : Type 0 where
  pub bitmaps : (sector : ℕ) → IsOfBitmaps volume.layout sector → IsCleared volume old sector (sector_of volume image sector)
  pub others : (d s : ℕ) → IsOffBitmaps volume d s → image d s ≡ old d s
