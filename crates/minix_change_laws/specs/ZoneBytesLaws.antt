-- What a part of one zone with other bytes does to a sound Minix volume.
use Rattle.std.specs.Prelude.{◌≡◌, ◌≢◌, ◌<◌, ℕ, ◌+◌, ◌/◌, ◌%◌, ◌^◌, ◌≤◌, List, length}
use Rattle.lilo_model.specs.Bytes.{with_part}
use Rattle.lilo_model.specs.Disks.{Image, with_sector}
use Rattle.lilo_model.specs.MinixLayout.{Kind, Super, numbers_in_zone, number_size, entry_size, zone_sector}
use Rattle.lilo_model.specs.MinixParts.{Volume, Pointer, sector_of, parts_of}
use Rattle.lilo_model.specs.MinixNames.{pointer, IsSound}
use Rattle.minix_change_laws.specs.Beside.{IsDataZone}
use Rattle.minix_change_laws.specs.Sees.{SeenAsIn}
use Rattle.minix_change_laws.specs.Only.{zone_of_entry}
use Rattle.minix_change_laws.specs.Grows.{below, Deeper}
use Rattle.minix_change_laws.specs.Changes.{MayHook, HasNumber}
use Rattle.minix_change_laws.specs.Part.{HasZonePart, PartIsWritten, number_bytes, offset_of_number, offset_in_block, IsPast}
use Rattle.minix_change_laws.specs.PartSample.{CanGrow}

-- other bytes in a part of a zone are a change of that zone alone
abbrev pub PartLaw : Type 0
PartLaw =
    (volume : Volume) (old image : Image) (zone offset : ℕ) (bytes : List ℕ)
    → IsSound volume old → IsDataZone volume.layout zone → HasZonePart volume old image zone offset bytes
    → PartIsWritten volume old image zone offset bytes

-- one write of a sector leaves them
abbrev pub WritePartLaw : Type 0
WritePartLaw =
    (volume : Volume) (old : Image) (zone offset : ℕ) (bytes : List ℕ)
    → offset < 1024 → offset % 512 + length bytes ≤ 512
    → HasZonePart
    volume
    old
    (with_sector old (record {
      disk = volume.span.disk;
      sector = volume.span.start + (zone_sector zone + offset / 512);
    })
    (with_part (sector_of volume old (zone_sector zone + offset / 512)) (offset % 512) bytes))
    zone
    offset
    bytes

-- the bytes of a number say it, and leave the other numbers
abbrev pub NumberBytesLaw : Type 0
NumberBytesLaw =
    (super : Super) (bytes : List ℕ) (index number : ℕ)
    → length bytes ≡ 1024 → index < numbers_in_zone super.kind → number < 256 ^ number_size super.kind
    → HasNumber super bytes (with_part bytes (offset_of_number super.kind index) (number_bytes super.kind number)) index number

-- no name sees them where a directory gets zones by it
abbrev pub SeenNumberLaw : Type 0
SeenNumberLaw =
    (volume : Volume) (old image : Image) (directory : ℕ) (outer : Pointer) (index zone : ℕ) (more : List Deeper)
    → IsSound volume old → MayHook volume.layout (parts_of volume old) directory (below outer index) zone more
    → pointer volume.layout (parts_of volume old) directory outer ≢ 0
    → zone < 256 ^ number_size volume.layout.kind
    → HasZonePart volume old image (pointer volume.layout (parts_of volume old) directory outer)
    (offset_of_number volume.layout.kind index) (number_bytes volume.layout.kind zone)
    → SeenAsIn volume old image

-- nor any bytes of an entry at a place past a directory's size
abbrev pub SeenPastLaw : Type 0
SeenPastLaw =
    (volume : Volume) (old image : Image) (directory place : ℕ) (bytes : List ℕ)
    → IsSound volume old → IsPast volume.layout (parts_of volume old) directory place → length bytes ≡ entry_size volume.layout.kind
    → HasZonePart volume old image (zone_of_entry volume.layout (parts_of volume old) directory place) (offset_in_block volume.layout place) bytes
    → SeenAsIn volume old image

-- ---- a sample

-- there are sound parts on which a directory may grow in each way
abbrev pub GrowthSampleLaw : Type 0
GrowthSampleLaw = (kind : Kind) → CanGrow kind
