-- An image in which a part of one zone of a Minix volume has other bytes: an entry, a number of an indirect zone, or a
-- place filled with zeros. Sectors are counted from the start of the volume.
use Rattle.std.specs.Prelude.{◌≡◌, ◌≢◌, ◌<◌, ◌≤◌, ℕ, ◌+◌, ◌*◌, ◌/◌, ◌%◌, true, if◌then◌else◌, List, length, replicate}
use Rattle.lilo_model.specs.Bytes.{with_part, bytes16, bytes32}
use Rattle.lilo_model.specs.Disks.{Image}
use Rattle.lilo_model.specs.MinixLayout.{Kind, Super, is_v1, number_size, entry_size, reach, zone_sector}
use Rattle.lilo_model.specs.MinixParts.{Parts, Volume, sector_of, is_directory, blocks_for, parts_of}
use Rattle.lilo_model.specs.MinixEntries.{entries_per_block, places}
use Rattle.lilo_model.specs.MinixNames.{Named}
use Rattle.minix_change_laws.specs.SeesLaws.{KeepsSectors}
use Rattle.minix_change_laws.specs.Only.{zone_of_entry}
use Rattle.minix_change_laws.specs.Changes.{ChangesZone}

-- it lies in one sector, and all other bytes of the volume are as another image has them
pub record HasZonePart (volume : Volume) (old image : Image) (zone offset : ℕ) (bytes : List ℕ) : Type 0 where
  pub below : offset < 1024
  pub inside : offset % 512 + length bytes ≤ 512
  pub here : sector_of volume image (zone_sector zone + offset / 512) ≡ with_part (sector_of volume old (zone_sector zone + offset / 512)) (offset % 512) bytes
  pub others : (sector : ℕ) → sector < 2 * volume.layout.zones → sector ≢ zone_sector zone + offset / 512
      → sector_of volume image sector ≡ sector_of volume old sector

-- the bytes of a zone with others in a part
abbrev pub with_zone_part : Parts → ℕ → ℕ → List ℕ → List ℕ
with_zone_part parts zone offset bytes = with_part (parts.zone zone) offset bytes

-- then that zone alone changes
pub record PartIsWritten (volume : Volume) (old image : Image) (zone offset : ℕ) (bytes : List ℕ) : Type 0 where
  pub change : ChangesZone volume.layout (parts_of volume old) (parts_of volume image) zone (with_zone_part (parts_of volume old) zone offset bytes)
  pub sectors : KeepsSectors volume old image
  pub long : length ((parts_of volume old).zone zone) ≡ 1024

-- the bytes of a number in an indirect zone, and where they begin
abbrev pub number_bytes : Kind → ℕ → List ℕ
number_bytes kind number = if is_v1 kind then bytes16 number else bytes32 number

abbrev pub offset_of_number : Kind → ℕ → ℕ
offset_of_number kind index = number_size kind * index

-- where an entry begins in its block
abbrev pub offset_in_block : Super → ℕ → ℕ
offset_in_block super place = entry_size super.kind * (place % entries_per_block super.kind)

-- the bytes of a free entry
abbrev pub free_bytes : Kind → List ℕ
free_bytes kind = replicate (entry_size kind) 0

-- a place past a directory's size lies in a zone that it has
pub record IsPast (super : Super) (parts : Parts) (directory place : ℕ) : Type 0 where
  pub named : Named super parts directory
  pub is : is_directory (parts.node directory) ≡ true
  pub past : places super.kind (parts.node directory).size ≤ place
  pub some : zone_of_entry super parts directory place ≢ 0
  pub reached : blocks_for (parts.node directory).size ≤ reach super.kind
  pub near : place / entries_per_block super.kind < reach super.kind
