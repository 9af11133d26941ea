-- What a name in a directory leads to, and when its removal is refused (a rule of this project's own).
use Rattle.std.specs.Prelude.{◌≡◌, ◌≢◌, ◌≤◌, ◌⊎◌, ℕ, true, false, if◌then◌else◌, List, Option, Some, None, Result, Ok, Err}
use Rattle.disk_trait.specs.declared.disks.Disks.{Ghosts}
use Rattle.disk_trait.specs.Moments.{IsTold, now}
use Rattle.lilo_model.specs.MinixLayout.{FitsInode, Inode, reach}
use Rattle.lilo_model.specs.MinixNames.{entry, Named, IsSound}
use Rattle.lilo_model.specs.MinixParts.{Parts, blocks_for, is_directory}
use Rattle.lilo_model.specs.MinixLayout as model
use Rattle.minix_change_laws.specs.Only.{zone_of_entry}
use Rattle.minix_layout.specs.View.{kind_view, super_view, inode_view}
use Rattle.minix_layout.specs.declared.inode.Inode as layout
use Rattle.minix_layout.specs.declared.superblock.Super.{Super}
use Rattle.minix_remove_laws.specs.Held.{held_name, is_removable, HoldsName}
use Rattle.minix_steps.specs.Written.{parts_now}
use Rattle.minix_tree.specs.declared.tree_fault.TreeFault.{TreeFault}
use Rattle.minix_tree.specs.declared.tree_fault.TreeFault.TheVariants.{NotFound, NotFile, Zone}
use Rattle.minix_zones.specs.View.{IsDataZone}
use Rattle.minix_zones.specs.Volume.{volume_view, past_of}
use Rattle.minix_zones.specs.declared.volume.Volume.{Volume}
use Rattle.minix_zones.specs.declared.zone_fault.ZoneFault.TheVariants.{Device}
use Rattle.minix_remove.specs.declared.target.Target.{Target}

-- the volume is sound now, and a directory is the root or has a name
pub record IsDirectoryNow {D : Type 0} {disks : Ghosts D} (volume : Volume D disks) (directory : ℕ) : Type 0 where
  pub sound : IsSound (volume_view volume) (now (past_of volume))
  pub named : Named (super_view volume.layout) (parts_now volume) directory
  pub is : is_directory ((parts_now volume).node directory) ≡ true

-- ---- when it is refused

-- why no name of an inode is removed: it isn't there, or is neither a regular file nor a symbolic link
abbrev pub refusal_of : Parts → Option ℕ → Option TreeFault
refusal_of parts None = Some (NotFound 0)
refusal_of parts (Some number) = if is_removable (parts.node number) then None else Some NotFile

-- why a name of a directory isn't
abbrev pub refusal : model.Super → Parts → ℕ → List ℕ → Option TreeFault
refusal super parts directory name = refusal_of parts (held_name super parts directory name)

-- ---- what it leads to

-- an entry and an inode that a volume with this superblock can have
pub record FitsTarget (layout : Super) (target : Target) : Type 0 where
  pub zone : IsDataZone layout target.zone
  pub some : 1 ≤ target.inode
  pub there : target.inode ≤ layout.inodes
  pub fits : FitsInode (kind_view layout.kind) (inode_view target.node)

-- the directory has the entry of the name at its place, in this zone, and its inode is this one now
pub record IsTarget {D : Type 0} {disks : Ghosts D} (volume : Volume D disks) (directory : ℕ) (name : List ℕ) (target : Target) : Type 0 where
  pub in_directory : IsDirectoryNow volume directory
  pub holds : HoldsName (super_view volume.layout) (parts_now volume) directory target.place target.inode name
  pub held : held_name (super_view volume.layout) (parts_now volume) directory name ≡ Some target.inode
  pub lies : zone_of_entry (super_view volume.layout) (parts_now volume) directory target.place ≡ target.zone
  pub reached : blocks_for ((parts_now volume).node directory).size ≤ reach (kind_view volume.layout.kind)
  pub node : (parts_now volume).node target.inode ≡ inode_view target.node

-- it was found, or the removal is refused, or the disk failed
abbrev pub FindsTarget : {D : Type 0} {disks : Ghosts D} → Volume D disks → ℕ → List ℕ → Result Target TreeFault → Type 0
FindsTarget volume directory name (Ok target) = IsTarget volume directory name target
FindsTarget volume directory name (Err fault) =
    (fault ≡ Zone Device) ⊎ (refusal (super_view volume.layout) (parts_now volume) directory name ≡ Some fault)

abbrev pub GivesTarget : {D : Type 0} {disks : Ghosts D} → Volume D disks → ℕ → List ℕ → Result Target TreeFault → Type 0
GivesTarget volume directory name result = IsTold (past_of volume) → IsDirectoryNow volume directory → FindsTarget volume directory name result

-- ---- on the way there

-- an inode with a name is a file or a link, or it is refused, or the disk failed
abbrev pub FindsFile : {D : Type 0} {disks : Ghosts D} → Volume D disks → ℕ → Result layout.Inode TreeFault → Type 0
FindsFile volume number (Ok node) = ((parts_now volume).node number ≡ inode_view node) × (is_removable (inode_view node) ≡ true)
FindsFile volume number (Err fault) = (fault ≡ Zone Device) ⊎ ((fault ≡ NotFile) × (is_removable ((parts_now volume).node number) ≡ false))

abbrev pub GivesFile : {D : Type 0} {disks : Ghosts D} → Volume D disks → ℕ → Result layout.Inode TreeFault → Type 0
GivesFile volume number result =
    IsTold (past_of volume) → IsSound (volume_view volume) (now (past_of volume)) → Named (super_view volume.layout) (parts_now volume) number
    → FindsFile volume number result

-- an entry of a directory that isn't free, by the directory's inode
pub record IsUsedPlace {D : Type 0} {disks : Ghosts D} (volume : Volume D disks) (directory : ℕ) (node : Inode) (place : ℕ) : Type 0 where
  pub in_directory : IsDirectoryNow volume directory
  pub is : node ≡ (parts_now volume).node directory
  pub used : (entry (super_view volume.layout) (parts_now volume) directory place).inode ≢ 0

-- the zone with it was found, or the disk failed
abbrev pub FindsZone : {D : Type 0} {disks : Ghosts D} → Volume D disks → ℕ → ℕ → Result ℕ TreeFault → Type 0
FindsZone volume directory place (Ok zone) = zone_of_entry (super_view volume.layout) (parts_now volume) directory place ≡ zone
FindsZone volume directory place (Err fault) = fault ≡ Zone Device

abbrev pub GivesZone : {D : Type 0} {disks : Ghosts D} → Volume D disks → Inode → ℕ → Result ℕ TreeFault → Type 0
GivesZone volume node place result =
    (directory : ℕ) → IsTold (past_of volume) → IsUsedPlace volume directory node place → FindsZone volume directory place result
