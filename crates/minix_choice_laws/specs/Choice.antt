-- What holds of a choice for a new file (a rule of this project's own).
use Rattle.std.specs.Prelude.{◌≡◌, ◌≢◌, ◌≤◌, ◌<◌, ℕ, List, [], true, false, length, slice_index, Some, None}
use Rattle.lilo_model.specs.Disks.{Image}
use Rattle.lilo_model.specs.MinixLayout.{Super, name_size, reach}
use Rattle.lilo_model.specs.MinixParts.{Parts, Volume, parts_of, is_directory, blocks_for}
use Rattle.lilo_model.specs.MinixEntries.{places, is_dots}
use Rattle.lilo_model.specs.MinixNames.{entry, lookup, reached}
use Rattle.minix_change_laws.specs.Written.{IsPlaced}
use Rattle.minix_change_laws.specs.Enter.{MayEnter}
use Rattle.minix_change_laws.specs.Only.{zone_of_entry}
use Rattle.minix_choice_laws.specs.Chosen.{AreRising, chosen_zones}
use Rattle.minix_choice_laws.specs.Sources.{FileZones}
use Rattle.write_model.specs.Choice.{Choice, file_need}
use Rattle.write_model.specs.FileZones.{data_blocks}
use Rattle.write_model.specs.Places.{most_places}
use Rattle.write_model.specs.Wish.{Wish, Taken}

-- the zones that are chosen for a file's blocks and for its indirect zones
abbrev pub file_of : Choice → FileZones
file_of choice = record { blocks = choice.blocks; indirect = choice.indirect }

-- a data zone that is neither marked nor taken
pub record IsFreeZone (super : Super) (parts : Parts) (taken : Taken) (zone : ℕ) : Type 0 where
  pub from : super.first ≤ zone
  pub below : zone < super.zones
  pub unmarked : parts.has_zone zone ≡ false
  pub left : taken.has_zone zone ≡ false

-- what is chosen is free: the lowest zones first, and enough of them for the file
pub record IsFreeChoice (super : Super) (parts : Parts) (taken : Taken) (wish : Wish) (choice : Choice) : Type 0 where
  pub short : length wish.name ≤ name_size super.kind
  pub some : 1 ≤ choice.inode
  pub there : choice.inode ≤ super.inodes
  pub unmarked : parts.has_inode choice.inode ≡ false
  pub left : taken.has_inode choice.inode ≡ false
  pub rising : AreRising choice.zones
  pub free : (i : ℕ) → i < length choice.zones → IsFreeZone super parts taken (slice_index choice.zones i)
  pub enough : file_need super.kind (data_blocks wish.length wish.holes) ≤ length choice.zones
  pub file : file_of choice ≡ chosen_zones super.kind (data_blocks wish.length wish.holes) choice.zones
  -- and where the directory doesn't grow, no more
  pub no_more : choice.growth ≡ [] → length choice.zones ≡ file_need super.kind (data_blocks wish.length wish.holes)

-- the name isn't in the directory, and may be made at the place: below the size it is free, past it the directory can have
-- so many; it lies in a zone where the directory gets none
pub record IsFreeName (super : Super) (parts : Parts) (wish : Wish) (choice : Choice) : Type 0 where
  pub plain : is_dots wish.name ≡ false
  pub absent : lookup super parts wish.name wish.directory ≡ None
  pub free : choice.place < places super.kind (parts.node wish.directory).size → (entry super parts wish.directory choice.place).inode ≡ 0
  pub near : places super.kind (parts.node wish.directory).size ≤ choice.place → choice.place < most_places super.kind
  pub some : choice.growth ≡ [] → zone_of_entry super parts wish.directory choice.place ≢ 0

-- in an image a name may be made at a place of a directory once this lies below the size and in a zone: below the size it
-- is free, and past it the directory can have so many
pub record MayHavePlace (volume : Volume) (image : Image) (outer : List (List ℕ)) (directory place : ℕ) (name : List ℕ) : Type 0 where
  pub leads : reached volume.layout (parts_of volume image) outer ≡ Some directory
  pub is : is_directory ((parts_of volume image).node directory) ≡ true
  pub reaches : blocks_for ((parts_of volume image).node directory).size ≤ reach volume.layout.kind
  pub plain : is_dots name ≡ false
  pub absent : lookup volume.layout (parts_of volume image) name directory ≡ None
  pub free : place < places volume.layout.kind ((parts_of volume image).node directory).size
      → (entry volume.layout (parts_of volume image) directory place).inode ≡ 0
  pub near : places volume.layout.kind ((parts_of volume image).node directory).size ≤ place → place < most_places volume.layout.kind

-- it lies there
pub record LiesThere (volume : Volume) (image : Image) (directory place : ℕ) : Type 0 where
  pub below : place < places volume.layout.kind ((parts_of volume image).node directory).size
  pub some : zone_of_entry volume.layout (parts_of volume image) directory place ≢ 0

-- in an image a name may be made at a place of a directory, which lies below the size and in a zone
pub record HasNamePlace (volume : Volume) (image : Image) (outer : List (List ℕ)) (directory place : ℕ) (name : List ℕ) : Type 0 where
  pub enters : MayEnter volume.layout (parts_of volume image) outer directory place name
  pub placed : IsPlaced volume image directory place
