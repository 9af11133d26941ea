-- Places of a directory that get below its size before a name is made there (a rule of this project's own).
use Rattle.std.specs.Prelude.{◌≡◌, ◌≢◌, ◌≤◌, ◌<◌, ◌+◌, ◌/◌, ℕ, true, [], Result, Ok, Err, OnOk, IfErr}
use Rattle.disk_trait.specs.declared.disks.Disks.{Ghosts}
use Rattle.disk_trait.specs.Moments.{IsTold, now}
use Rattle.disk_trait.specs.NotWritten.{NotWritten}
use Rattle.disk_trait.specs.Range.{IsOutside}
use Rattle.lilo_model.specs.Faults.{Rose}
use Rattle.lilo_model.specs.MinixEntries.{entries_per_block, places}
use Rattle.lilo_model.specs.MinixLayout.{Super, Inode, reach, zone_sector}
use Rattle.lilo_model.specs.MinixNames.{Named, PointsTo, IsSound}
use Rattle.lilo_model.specs.MinixParts as model
use Rattle.lilo_model.specs.MinixParts.{Parts, Pointer, is_directory, blocks_for}
use Rattle.minix_change_laws.specs.Comes.{IsFit}
use Rattle.minix_change_laws.specs.Only.{zone_of_entry, KeepsInode}
use Rattle.minix_grow.specs.Hook.{IsOffInode}
use Rattle.minix_grow.specs.Others.{KeepsOthers}
use Rattle.minix_layout.specs.View.{kind_view, super_view, inode_view}
use Rattle.minix_steps.specs.Written.{parts_now}
use Rattle.minix_turns.specs.Joined.{Unseen}
use Rattle.minix_choice.specs.declared.write_fault.WriteFault.{WriteFault}
use Rattle.minix_choice.specs.declared.write_fault.WriteFault.TheVariants.{Device}
use Rattle.minix_zones.specs.Volume.{volume_view, past_of, faults_of}
use Rattle.minix_zones.specs.declared.volume.Volume.{Volume}
use Rattle.minix_create.specs.declared.place_at.PlaceAt.{PlaceAt}

-- ---- inodes without a name

-- an inode that was fit for a name still is, and it and its zones are as they were
pub record StillFits (super : Super) (old new : Parts) (number : ℕ) : Type 0 where
  pub fit : IsFit super new number
  pub kept : KeepsInode super old new number

-- where a directory changes, what has a name has no pointer more, and so it is of each other inode that is fit for one
pub record KeepsFiles (super : Super) (old new : Parts) (directory : ℕ) : Type 0 where
  pub points : (number : ℕ) (at : Pointer) (zone : ℕ) → Named super old number → PointsTo super new number at zone → PointsTo super old number at zone
  pub files : (number : ℕ) → number ≢ directory → IsFit super old number → StillFits super old new number

-- ---- where a place lies

-- the volume is sound now, a directory has a name, and an inode can name the block of a place
pub record IsInDirectory {D : Type 0} {disks : Ghosts D} (volume : Volume D disks) (directory place : ℕ) : Type 0 where
  pub sound : IsSound (volume_view volume) (now (past_of volume))
  pub named : Named (super_view volume.layout) (parts_now volume) directory
  pub is : is_directory ((parts_now volume).node directory) ≡ true
  pub near : place / entries_per_block (kind_view volume.layout.kind) < reach (kind_view volume.layout.kind)

-- the directory's inode was found, and the zone with the place, or the disk failed
abbrev pub FindsPlace : {D : Type 0} {disks : Ghosts D} → Volume D disks → ℕ → ℕ → Result PlaceAt WriteFault → Type 0
FindsPlace volume directory place (Ok at) =
    (inode_view at.node ≡ (parts_now volume).node directory) × (zone_of_entry (super_view volume.layout) (parts_now volume) directory place ≡ at.zone)
FindsPlace volume directory place (Err fault) = fault ≡ Device

abbrev pub GivesPlace : {D : Type 0} {disks : Ghosts D} → Volume D disks → ℕ → ℕ → Result PlaceAt WriteFault → Type 0
GivesPlace volume directory place result = IsTold (past_of volume) → IsInDirectory volume directory place → FindsPlace volume directory place result

-- ---- places that are brought

-- the volume is sound now, a directory has a name, an inode can name its blocks, and so many places lie below its size
pub record MayBring {D : Type 0} {disks : Ghosts D} (volume : Volume D disks) (directory count : ℕ) : Type 0 where
  pub sound : IsSound (volume_view volume) (now (past_of volume))
  pub named : Named (super_view volume.layout) (parts_now volume) directory
  pub is : is_directory ((parts_now volume).node directory) ≡ true
  pub reaches : blocks_for ((parts_now volume).node directory).size ≤ reach (kind_view volume.layout.kind)
  pub low : count ≤ places (kind_view volume.layout.kind) ((parts_now volume).node directory).size

-- the first place past the size of a directory, by its inode and the zone with the place, 0 in a hole
pub record IsNextAt {D : Type 0} {disks : Ghosts D} (volume : Volume D disks) (directory : ℕ) (node : Inode) (place zone : ℕ) : Type 0 where
  pub may : MayBring volume directory place
  pub is : (parts_now volume).node directory ≡ node
  pub next : place ≡ places (kind_view volume.layout.kind) node.size
  pub lies : zone_of_entry (super_view volume.layout) (parts_now volume) directory place ≡ zone

-- a sector of a disk isn't the one with a directory's inode, nor of a zone that the directory has
pub record IsOffDirectory {D : Type 0} {disks : Ghosts D} (volume : Volume D disks) (directory d s : ℕ) : Type 0 where
  pub inode : IsOffInode volume directory d s
  pub zones : (at : Pointer) (zone : ℕ) → PointsTo (super_view volume.layout) (parts_now volume) directory at zone
      → IsOutside volume.span.disk (volume.span.start + zone_sector zone) 2 d s

-- so many places of a directory lie below its size, its links are as before, and so are all other inodes
pub record IsBrought (super : Super) (old new : Parts) (directory count : ℕ) : Type 0 where
  pub room : count ≤ places super.kind (new.node directory).size
  pub keeps : KeepsOthers super old new directory []

-- So many places of a directory were brought below its size. No name sees it at any moment, and no sector but the
-- directory's own was written; it was refused where the disk failed.
pub record Brings {D E : Type 0} {disks : Ghosts D} (old new : Volume D disks) (directory count : ℕ) (error : E) (result : Result (Unit {0}) E) : Type 0 where
  pub unseen : Unseen old new
  pub brought : IsTold (past_of old) → OnOk result (IsBrought (super_view old.layout) (parts_now old)
      (model.parts_of (volume_view old) (now (past_of new))) directory count)
  pub others : IsTold (past_of old) → (d s : ℕ) → IsOffDirectory old directory d s → NotWritten (past_of old) (past_of new) d s
  pub device : IsTold (past_of old) → IfErr result (λ fault. (fault ≡ error) × Rose (faults_of old) (faults_of new))
