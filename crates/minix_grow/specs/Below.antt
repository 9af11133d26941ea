-- A directory that may get new zones by a number in an indirect zone that it has (a rule of this project's own).
use Rattle.std.specs.Prelude.{◌≡◌, ◌≢◌, ◌+◌, ◌-◌, ◌/◌, ℕ, true, List, length, Result, OnOk}
use Rattle.disk_trait.specs.declared.disks.Disks.{Ghosts}
use Rattle.disk_trait.specs.Moments.{IsTold, now}
use Rattle.disk_trait.specs.NotWritten.{IsOther, NotWritten}
use Rattle.disk_trait.specs.Past.{Image}
use Rattle.lilo_model.specs.MinixEntries.{entries_per_block}
use Rattle.lilo_model.specs.MinixLayout.{Inode, zone_sector}
use Rattle.lilo_model.specs.MinixNames.{zone_number, entry, Named, IsSound}
use Rattle.lilo_model.specs.MinixParts as model
use Rattle.lilo_model.specs.MinixParts.{is_directory, parts_of}
use Rattle.minix_layout.specs.View.{kind_view, super_view}
use Rattle.minix_steps.specs.Written.{parts_now}
use Rattle.minix_turns.specs.Inode.{IsNamedNow}
use Rattle.minix_turns.specs.Joined.{Unseen}
use Rattle.minix_change_laws.specs.Part.{offset_of_number}
use Rattle.minix_zones.specs.Volume.{volume_view, past_of}
use Rattle.minix_zones.specs.declared.volume.Volume.{Volume}
use Rattle.minix_grow.specs.Hook.{IsOffInode}
use Rattle.minix_grow.specs.Way.{index_above, number_above}
use Rattle.minix_grow.specs.Zones.{IsOffZones}

-- the inode that is given is a directory's that has a name; its way to a block leads to this indirect zone, so many levels
-- above the block, and to a hole below that
pub record MayHookBelowNow {D : Type 0} {disks : Ghosts D} (volume : Volume D disks) (directory : ℕ) (node : Inode) (block count zone : ℕ) : Type 0 where
  pub lies : IsNamedNow volume directory node
  pub is : is_directory ((parts_now volume).node directory) ≡ true
  pub above : number_above (super_view volume.layout) (parts_now volume) directory block count ≡ zone
  pub hole : number_above (super_view volume.layout) (parts_now volume) directory block (count - 1) ≡ 0

-- in an image of a sound volume the inode that is given is a directory's that has a name, and a block of it lies in a zone
-- whose entries are all free
pub record HasFreeBlock (volume : model.Volume) (image : Image) (directory : ℕ) (node : Inode) (block : ℕ) : Type 0 where
  pub sound : IsSound volume image
  pub node_is : (parts_of volume image).node directory ≡ node
  pub named : Named volume.layout (parts_of volume image) directory
  pub is : is_directory ((parts_of volume image).node directory) ≡ true
  pub some : zone_number volume.layout (parts_of volume image) directory block ≢ 0
  pub free : (place : ℕ) → place / entries_per_block volume.layout.kind ≡ block
      → (entry volume.layout (parts_of volume image) directory place).inode ≡ 0

abbrev pub HasFreeBlockNow : {D : Type 0} {disks : Ghosts D} → Volume D disks → ℕ → Inode → ℕ → Type 0
HasFreeBlockNow volume directory node block = HasFreeBlock (volume_view volume) (now (past_of volume)) directory node block

-- ---- what a number in an indirect zone does

-- no name sees it
abbrev pub HooksBelowUnseen : {D : Type 0} {disks : Ghosts D} → Volume D disks → Volume D disks → ℕ → List ℕ → ℕ → Type 0
HooksBelowUnseen old new block growth zone =
    (directory : ℕ) (node : Inode) → (IsTold (past_of old) → MayHookBelowNow old directory node block (length growth) zone) → Unseen old new

-- once it is there so is the block
abbrev pub HooksFreeBlock : {D E : Type 0} {disks : Ghosts D} → Volume D disks → Volume D disks → ℕ → List ℕ → ℕ → Result (Unit {0}) E → Type 0
HooksFreeBlock old new block growth zone result =
    (directory : ℕ) (node : Inode) → (IsTold (past_of old) → MayHookBelowNow old directory node block (length growth) zone)
    → IsTold (past_of old) → OnOk result (HasFreeBlockNow new directory node block)

-- ---- what isn't written

-- a sector of a disk isn't the one with the number on the way to a block that is in an indirect zone, so many levels above
abbrev pub IsOffNumber : {D : Type 0} {disks : Ghosts D} → Volume D disks → ℕ → ℕ → ℕ → ℕ → ℕ → Type 0
IsOffNumber volume block count zone d s =
    IsOther volume.span.disk
    (volume.span.start + (zone_sector zone + offset_of_number (kind_view volume.layout.kind)
    (index_above (kind_view volume.layout.kind) block (count - 1)) / 512)) d s

-- a call wrote nothing but new zones, the sectors with their bits, the one with the number of the highest, and the one with
-- the directory's inode
abbrev pub WritesBelowAlone : {D : Type 0} {disks : Ghosts D} → Volume D disks → Volume D disks → ℕ → ℕ → List ℕ → ℕ → Type 0
WritesBelowAlone old new directory block growth zone =
    (d s : ℕ) → IsOffZones old growth d s → IsOffNumber old block (length growth) zone d s → IsOffInode old directory d s
    → NotWritten (past_of old) (past_of new) d s
