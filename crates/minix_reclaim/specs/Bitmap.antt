-- Where the bits of zones and inodes lie on a volume, and which of them have a use by what a survey found.
use Rattle.std.specs.Prelude.{◌≡◌, ◌<◌, ◌⊎◌, ℕ, ◌+◌, ◌-◌, ◌*◌, ◌/◌, ◌%◌, ◌==◌, Bool, not, ◌&&◌, ◌||◌, is_some}
use Rattle.lilo_model.specs.Disks.{Image}
use Rattle.lilo_model.specs.MinixLayout.{Super}
use Rattle.lilo_model.specs.MinixParts.{Volume, sector_of, bit}
use Rattle.minix_survey.specs.declared.findings.Findings.{Findings}
use Rattle.minix_survey.specs.Findings.{owner_in, names_in}
use Rattle.minix_reclaim.specs.declared.bitmap.Bitmap.{Bitmap}
use Rattle.minix_reclaim.specs.declared.bitmap.Marked.{Marked}
use Rattle.minix_reclaim.specs.declared.bitmap.Marked.TheVariants.{Zones, Inodes}

-- the bitmap of the data zones, whose bit 1 is the first one's
abbrev pub zone_bitmap : Super → Bitmap
zone_bitmap super = record { of = Zones; sector = 4 + 2 * super.imap; origin = super.first - 1; end = super.zones }

-- the bitmap of the inodes, at block 2
abbrev pub inode_bitmap : Super → Bitmap
inode_bitmap super = record { of = Inodes; sector = 4; origin = 0; end = super.inodes + 1 }

-- one of them
abbrev pub IsBitmapOf : Super → Bitmap → Type 0
IsBitmapOf super bitmap = (bitmap ≡ zone_bitmap super) ⊎ (bitmap ≡ inode_bitmap super)

-- whether a zone is referred to, or an inode is the root or has a name
abbrev pub is_used : Marked → Findings → ℕ → Bool
is_used Zones found number = is_some (owner_in found number)
is_used Inodes found number = (number == 1) || not (names_in found number == 0)

-- a number of a bitmap
pub record IsNumberOf (bitmap : Bitmap) (n : ℕ) : Type 0 where
  pub above : bitmap.origin < n
  pub below : n < bitmap.end

-- the sector with a number's bit, and which of its bits that is
abbrev pub sector_with : Bitmap → ℕ → ℕ
sector_with bitmap n = bitmap.sector + (n - bitmap.origin) / 4096

abbrev pub bit_with : Bitmap → ℕ → ℕ
bit_with bitmap n = (n - bitmap.origin) % 4096

-- whether a number's bit is set
abbrev pub marked : Volume → Image → Bitmap → ℕ → Bool
marked volume image bitmap n = bit (sector_of volume image (sector_with bitmap n)) (bit_with bitmap n)

-- whether it is set without a use
abbrev pub is_unused_on : Volume → Image → Bitmap → Findings → ℕ → Bool
is_unused_on volume image bitmap found n = marked volume image bitmap n && not (is_used bitmap.of found n)
