-- What disks hold, and their sizes and shapes as a BIOS sees them (IBM PC, INT 13h). A disk and a sector
-- are numbered from 0.
use Rattle.std.specs.Prelude.{◌≡◌, ℕ, ◌≤◌, ◌<◌, ◌==◌, ◌&&◌, List, length, All, if◌then◌else◌}

-- the bytes in each sector of each disk
abbrev pub Image : Type 0
Image = ℕ → ℕ → List ℕ

-- bytes that a sector can have: 512 numbers below 256
pub record IsSector (bytes : List ℕ) : Type 0 where
  pub size : length bytes ≡ 512
  pub bytes_fit : All (λ byte. byte < 256) bytes

-- each sector of each disk has such bytes
abbrev pub IsImage : Image → Type 0
IsImage image = (disk sector : ℕ) → IsSector (image disk sector)

-- the heads of a disk, and the sectors on a track
pub record Geometry : Type 0 where
  pub heads : ℕ
  pub sectors : ℕ

-- a geometry that a BIOS can report: 1 to 255 heads, and 1 to 63 sectors on a track
pub record IsGeometry (geometry : Geometry) : Type 0 where
  pub some_head : 1 ≤ geometry.heads
  pub most_heads : geometry.heads ≤ 255
  pub some_sector : 1 ≤ geometry.sectors
  pub most_sectors : geometry.sectors ≤ 63

-- the number of sectors of each disk, 0 where the disk is absent, and its geometry
pub record Machine : Type 0 where
  pub size_of : ℕ → ℕ
  pub geometry_of : ℕ → Geometry

-- the sectors of a disk or of one of its partitions
pub record Span : Type 0 where
  pub disk : ℕ
  pub start : ℕ
  pub count : ℕ

-- one sector of one disk
pub record DiskSector : Type 0 where
  pub disk : ℕ
  pub sector : ℕ

-- the bytes in a sector
abbrev pub bytes_at : Image → DiskSector → List ℕ
bytes_at image place = image place.disk place.sector

-- an image with other bytes in one sector
abbrev pub with_sector : Image → DiskSector → List ℕ → Image
with_sector image place bytes disk sector =
    if place.disk == disk && place.sector == sector then bytes else image disk sector
