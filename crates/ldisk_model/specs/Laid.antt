-- A volume as it was read, before a survey (Minix file system). Sectors are counted from the start of the volume.
use Rattle.std.specs.Prelude.{◌≡◌, ◌<◌, ℕ, ◌*◌, length, Ok}
use Rattle.lilo_model.specs.Disks.{Image}
use Rattle.lilo_model.specs.MinixLayout.{super_at, super_sector}
use Rattle.lilo_model.specs.MinixParts.{Volume, sector_of}

-- the volume's superblock is the one that was read, and each of its sectors is there
pub record IsLaid (volume : Volume) (image : Image) : Type 0 where
  pub super : super_at (sector_of volume image super_sector) volume.span.count ≡ Ok volume.layout
  pub whole : (sector : ℕ) → sector < 2 * volume.layout.zones → length (sector_of volume image sector) ≡ 512
