-- The bytes of a directory's entry on a Minix volume, and an image in which they are others. Sectors are counted
-- from the start of the volume.
use Rattle.std.specs.Prelude.{◌≡◌, ◌≢◌, ◌<◌, ◌≤◌, ℕ, ◌+◌, ◌*◌, ◌/◌, ◌%◌, true, List, ◌++◌, length, All}
use Rattle.lilo_model.specs.Bytes.{with_part, bytes16, filled_bytes}
use Rattle.lilo_model.specs.Disks.{Image}
use Rattle.lilo_model.specs.MinixLayout.{Kind, Super, Place, entry_size, name_size, reach, zone_sector}
use Rattle.lilo_model.specs.MinixParts.{Parts, Volume, sector_of, is_directory, blocks_for, parts_of}
use Rattle.lilo_model.specs.MinixEntries.{entry_of, entries_per_block, places}
use Rattle.lilo_model.specs.MinixNames.{entry, Sound, IsSound}
use Rattle.minix_change_laws.specs.Beside.{NamedIn}
use Rattle.minix_change_laws.specs.Only.{zone_of_entry, ChangesOnlyEntry, KeepsInode}
use Rattle.minix_change_laws.specs.Comes.{IsFit}

-- the bytes of an entry of a kind, by the inode and the name
abbrev pub entry_bytes : Kind → ℕ → List ℕ → List ℕ
entry_bytes kind number name = bytes16 number ++ filled_bytes (name_size kind) name

-- a name that an entry of a kind can hold: it isn't too long, and has no zero byte
pub record FitsEntry (kind : Kind) (name : List ℕ) : Type 0 where
  pub short : length name ≤ name_size kind
  pub no_zero : All (λ byte. byte ≢ 0) name

-- how far into its block an entry begins
abbrev pub offset_of_entry : Super → ℕ → ℕ
offset_of_entry super place = entry_size super.kind * (place % entries_per_block super.kind)

-- where an entry lies; it lies whole in one sector
unfoldable pub place_of_entry : Super → Parts → ℕ → ℕ → Place
place_of_entry super parts directory place = record {
  sector = zone_sector (zone_of_entry super parts directory place) + offset_of_entry super place / 512;
  at = offset_of_entry super place % 512;
}

-- the same, on a volume in an image
abbrev pub place_in : Volume → Image → ℕ → ℕ → Place
place_in volume image directory place = place_of_entry volume.layout (parts_of volume image) directory place

-- an entry lies below the size of a directory that has a name, in a block that is no hole; an inode can name all
-- of the directory's blocks
pub record IsPlaced (volume : Volume) (image : Image) (directory place : ℕ) : Type 0 where
  pub named : NamedIn volume image directory
  pub is : is_directory ((parts_of volume image).node directory) ≡ true
  pub reached : blocks_for ((parts_of volume image).node directory).size ≤ reach volume.layout.kind
  pub below : place < places volume.layout.kind ((parts_of volume image).node directory).size
  pub some : zone_of_entry volume.layout (parts_of volume image) directory place ≢ 0

-- an image has other bytes where an entry lies, and all others of the volume as another image has them
pub record HasEntryBytes (volume : Volume) (old image : Image) (directory place : ℕ) (bytes : List ℕ) : Type 0 where
  pub long : length bytes ≡ entry_size volume.layout.kind
  pub here : sector_of volume image (place_in volume old directory place).sector
      ≡ with_part (sector_of volume old (place_in volume old directory place).sector)
      (place_in volume old directory place).at bytes
  pub others : (sector : ℕ) → sector < 2 * volume.layout.zones → sector ≢ (place_in volume old directory place).sector
      → sector_of volume image sector ≡ sector_of volume old sector

-- one entry changes there, to what the bytes say; an inode that is fit for a name stays, and the volume is sound
-- where its parts are
pub record EntryIsWritten (volume : Volume) (old image : Image) (directory place : ℕ) (bytes : List ℕ) : Type 0 where
  pub only : ChangesOnlyEntry volume.layout (parts_of volume old) (parts_of volume image) directory place
  pub says : entry volume.layout (parts_of volume image) directory place ≡ entry_of volume.layout.kind bytes
  pub kept : (number : ℕ) → IsFit volume.layout (parts_of volume old) number → number ≢ directory
      → KeepsInode volume.layout (parts_of volume old) (parts_of volume image) number
  pub sound : Sound volume.layout (parts_of volume image) → IsSound volume image
