-- Places of a directory that get below its size (a rule of this project's own).
use Rattle.std.specs.Prelude.{◌≡◌, ◌+◌, ◌*◌, ◌/◌, ◌%◌, ℕ}
use Rattle.disk_trait.specs.declared.disks.Disks.{Ghosts}
use Rattle.disk_trait.specs.Moments.{now}
use Rattle.disk_trait.specs.NotWritten.{IsOther, NotWritten}
use Rattle.disk_trait.specs.Past.{Image}
use Rattle.lilo_model.specs.MinixEntries.{entries_per_block, places}
use Rattle.lilo_model.specs.MinixLayout.{Kind, Inode, entry_size, zone_sector}
use Rattle.lilo_model.specs.MinixNames.{entry, IsSound}
use Rattle.lilo_model.specs.MinixParts.{Volume, parts_of}
use Rattle.minix_change_laws.specs.Written.{IsPlaced}
use Rattle.minix_change_laws.specs.Only.{zone_of_entry}
use Rattle.minix_layout.specs.View.{kind_view}
use Rattle.minix_change_laws.specs.Part.{IsPast}
use Rattle.minix_zones.specs.Volume.{volume_view, past_of}
use Rattle.minix_zones.specs.declared.volume.Volume as code
use Rattle.minix_grow.specs.Hook.{IsOffInode}

-- the size of a directory whose last place is this one
abbrev pub size_to : Kind → ℕ → ℕ
size_to kind place = (place + 1) * entry_size kind

-- the sector with a place of a directory that lies in a zone, counted from the start of the volume
abbrev pub place_sector : Kind → ℕ → ℕ → ℕ
place_sector kind place zone = zone_sector zone + entry_size kind * (place % entries_per_block kind) / 512

-- in an image a place of a directory lies below the size and in a zone, and its entry is free
pub record IsFreePlace (volume : Volume) (image : Image) (directory place : ℕ) : Type 0 where
  pub placed : IsPlaced volume image directory place
  pub free : (entry volume.layout (parts_of volume image) directory place).inode ≡ 0

-- the volume is sound in an image, where a directory is the inode that is given, and the first place past its size lies
-- in a zone that it has
pub record IsNextPlace (volume : Volume) (image : Image) (directory : ℕ) (node : Inode) (place zone : ℕ) : Type 0 where
  pub sound : IsSound volume image
  pub is : (parts_of volume image).node directory ≡ node
  pub past : IsPast volume.layout (parts_of volume image) directory place
  pub lies : zone_of_entry volume.layout (parts_of volume image) directory place ≡ zone
  pub next : place ≡ places volume.layout.kind node.size

-- ---- now

abbrev pub IsFreePlaceNow : {D : Type 0} {disks : Ghosts D} → code.Volume D disks → ℕ → ℕ → Type 0
IsFreePlaceNow volume directory place = IsFreePlace (volume_view volume) (now (past_of volume)) directory place

abbrev pub IsNextPlaceNow : {D : Type 0} {disks : Ghosts D} → code.Volume D disks → ℕ → Inode → ℕ → ℕ → Type 0
IsNextPlaceNow volume directory node place zone = IsNextPlace (volume_view volume) (now (past_of volume)) directory node place zone

-- ---- what isn't written

-- a sector of a disk isn't the one with a place of a directory in a zone
abbrev pub IsOffPlace : {D : Type 0} {disks : Ghosts D} → code.Volume D disks → ℕ → ℕ → ℕ → ℕ → Type 0
IsOffPlace volume place zone d s =
    IsOther volume.span.disk (volume.span.start + place_sector (kind_view volume.layout.kind) place zone) d s

-- a call wrote nothing but that sector and the one with the directory's inode
abbrev pub WritesPlaceAlone : {D : Type 0} {disks : Ghosts D} → code.Volume D disks → code.Volume D disks → ℕ → ℕ → ℕ → Type 0
WritesPlaceAlone old new directory place zone =
    (d s : ℕ) → IsOffPlace old place zone d s → IsOffInode old directory d s → NotWritten (past_of old) (past_of new) d s
