-- Where the bits of zones and inodes lie on a volume.
use Rattle.std.specs.Prelude.{◌<◌, ℕ, ◌+◌, ◌-◌, ◌*◌, ◌/◌, ◌%◌, min, Bool}
use Rattle.lilo_model.specs.Disks.{Image}
use Rattle.lilo_model.specs.MinixLayout.{Super}
use Rattle.lilo_model.specs.MinixParts.{Volume, sector_of, bit}
use Rattle.minix_steps.specs.declared.bitmap.Bitmap.{Bitmap}

-- the bitmap of the data zones, whose bit 1 is the first one's
abbrev pub zone_bitmap : Super → Bitmap
zone_bitmap layout = record { sector = 4 + 2 * layout.imap; origin = layout.first - 1; end = layout.zones }

-- the bitmap of the inodes, at block 2
abbrev pub inode_bitmap : Super → Bitmap
inode_bitmap layout = record { sector = 4; origin = 0; end = layout.inodes + 1 }

-- a bitmap has numbers, and lies in so many sectors
pub record IsBitmapIn (bitmap : Bitmap) (count : ℕ) : Type 0 where
  pub some : bitmap.origin < bitmap.end
  pub fits : bitmap.sector + (bitmap.end - 1 - bitmap.origin) / 4096 < count

-- a number of a bitmap
pub record IsNumberOf (bitmap : Bitmap) (n : ℕ) : Type 0 where
  pub above : bitmap.origin < n
  pub below : n < bitmap.end

-- the number whose bit is the first in the sector with that of another one
abbrev pub base_of : Bitmap → ℕ → ℕ
base_of bitmap at = at - (at - bitmap.origin) % 4096

-- the number after the last one whose bit is in that sector
abbrev pub end_of : Bitmap → ℕ → ℕ
end_of bitmap at = base_of bitmap at + min (bitmap.end - base_of bitmap at) 4096

-- the sector with a number's bit
abbrev pub sector_with : Bitmap → ℕ → ℕ
sector_with bitmap n = bitmap.sector + (n - bitmap.origin) / 4096

-- whether a number's bit is set
unfoldable pub marked : Volume → Image → Bitmap → ℕ → Bool
marked volume image bitmap n = bit (sector_of volume image (sector_with bitmap n)) ((n - bitmap.origin) % 4096)
