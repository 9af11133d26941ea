-- Where the sectors of a regular file lie that was made (a rule of this project's own).
use Rattle.std.specs.Prelude.{◌≡◌, ◌≢◌, ◌<◌, ℕ, ◌*◌, ◌/◌, ◌%◌, true, List, map, length, slice_index, Some, Ok}
use Rattle.std.specs.List.{range_with_len}
use Rattle.disk_trait.specs.declared.disks.Disks.{Ghosts}
use Rattle.disk_trait.specs.Moments.{now}
use Rattle.lilo_model.specs.Bytes.{part_of}
use Rattle.lilo_model.specs.Disks.{Image, DiskSector}
use Rattle.lilo_model.specs.MinixParts as model
use Rattle.lilo_model.specs.MinixParts.{is_file, blocks_for, parts_of}
use Rattle.lilo_model.specs.Planned.{inode_places}
use Rattle.minix_create.specs.Chosen.{sector_of, new_inode}
use Rattle.minix_create.specs.Linked.{Creates}
use Rattle.minix_create.specs.declared.chosen.Chosen.{Chosen}
use Rattle.minix_zones.specs.Volume.{volume_view, past_of}
use Rattle.minix_zones.specs.declared.volume.Volume.{Volume}

-- it is a regular file of some whole sectors, and each of its blocks gets a zone
pub record IsWholeFile (chosen : Chosen) (count : ℕ) : Type 0 where
  pub file : is_file (new_inode chosen) ≡ true
  pub size : chosen.length ≡ 512 * count
  pub each : (index : ℕ) → index < blocks_for chosen.length → slice_index chosen.choice.blocks index ≢ 0

-- each of its blocks is given whole
abbrev pub AreGiven : Chosen → (ℕ → List ℕ) → Type 0
AreGiven chosen given = (index : ℕ) → index < blocks_for chosen.length → length (given index) ≡ 1024

-- a sector of the blocks that are given: the first 512 bytes of one, or its last
abbrev pub sector_in : (ℕ → List ℕ) → ℕ → List ℕ
sector_in given index = part_of (given (index / 2)) (512 * (index % 2)) 512

-- in an image its first sectors are those given, each at its place
abbrev pub HasSectors : Image → ℕ → Chosen → (ℕ → List ℕ) → ℕ → Type 0
HasSectors image disk chosen given count = (index : ℕ) → index < count → image disk (sector_of chosen index) ≡ sector_in given index

-- so it is now of all its blocks' sectors, those past its size too, where it was made of them since a volume was as it is here
abbrev pub LieWhereChosen : {D : Type 0} {disks : Ghosts D} → Volume D disks → Volume D disks → Chosen → Type 0
LieWhereChosen start volume chosen =
    (outer : List (List ℕ)) (given : ℕ → List ℕ) (count : ℕ) → Creates start volume outer chosen given (Ok tt)
    → IsWholeFile chosen count → AreGiven chosen given → HasSectors (now (past_of volume)) start.span.disk chosen given (2 * blocks_for chosen.length)

-- where its first sectors lie
abbrev pub file_places : Chosen → ℕ → ℕ → List DiskSector
file_places chosen disk count = map (λ index. record { disk = disk; sector = sector_of chosen index }) (range_with_len 0 count)

-- in an image a file's inode is a regular file of its length, and has these places, in order and no others
pub record IsFileThere (volume : model.Volume) (image : Image) (chosen : Chosen) (count : ℕ) : Type 0 where
  pub file : is_file ((parts_of volume image).node chosen.choice.inode) ≡ true
  pub size : ((parts_of volume image).node chosen.choice.inode).size ≡ chosen.length
  pub places : inode_places volume (parts_of volume image) chosen.choice.inode ≡ map Some (file_places chosen volume.span.disk count)

-- so it is now, where it was made of its blocks since a volume was as it is here
abbrev pub HasPlaces : {D : Type 0} {disks : Ghosts D} → Volume D disks → Volume D disks → Chosen → Type 0
HasPlaces start volume chosen =
    (outer : List (List ℕ)) (given : ℕ → List ℕ) (count : ℕ) → Creates start volume outer chosen given (Ok tt)
    → IsWholeFile chosen count → AreGiven chosen given → IsFileThere (volume_view start) (now (past_of volume)) chosen count
