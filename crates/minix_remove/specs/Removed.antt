-- What the removal of a name leaves, and when it is refused.
use Rattle.std.specs.Prelude.{◌≡◌, ◌≢◌, ◌≤◌, ◌<◌, ◌+◌, ◌-◌, ◌⊎◌, ℕ, false, List, ◌∷◌, Some, None, Result, Ok, Err, OnOk}
use Rattle.disk_trait.specs.declared.disks.Disks.{Ghosts}
use Rattle.disk_trait.specs.Calls.{GoesOn}
use Rattle.disk_trait.specs.Moments.{IsTold}
use Rattle.disk_trait.specs.NotWritten.{NotWritten}
use Rattle.disk_trait.specs.Range.{IsOutside}
use Rattle.lilo_model.specs.Faults.{Rose}
use Rattle.lilo_model.specs.MinixLayout.{Super, zone_sector}
use Rattle.lilo_model.specs.MinixNames.{reached, PointsTo}
use Rattle.lilo_model.specs.MinixParts.{Parts, Pointer}
use Rattle.minix_change_laws.specs.Beside.{IsInode, IsDataZone}
use Rattle.minix_fill.specs.Freed.{no_inode, IsOffFile}
use Rattle.minix_layout.specs.View.{super_view}
use Rattle.minix_create.specs.Made.{KeepsPlaces}
use Rattle.minix_remove_laws.specs.Held.{held_name}
use Rattle.minix_change_laws.specs.Sees.{with_links}
use Rattle.minix_steps.specs.Written.{parts_now}
use Rattle.minix_tree.specs.declared.tree_fault.TreeFault.{TreeFault}
use Rattle.minix_turns.specs.Joined.{LeadsPath}
use Rattle.minix_choice.specs.declared.write_fault.WriteFault.{WriteFault}
use Rattle.minix_choice.specs.declared.write_fault.WriteFault.TheVariants.{Tree, Device}
use Rattle.minix_zones.specs.Volume.{past_of, faults_of, KeepsVolume, SameVolume, HasDeviceCause}
use Rattle.minix_zones.specs.declared.volume.Volume.{Volume}
use Rattle.minix_zones.specs.declared.zone_fault.ZoneFault.{ZoneFault}
use Rattle.minix_zones.specs.declared.zone_fault.ZoneFault.TheVariants as zones
use Rattle.minix_remove.specs.Target.{refusal, IsTarget}
use Rattle.minix_remove.specs.declared.target.Target.{Target}

-- ---- the inode and the bitmaps

-- an inode has a link less, and no bit is another
pub record LowersLinks (super : Super) (old new : Parts) (number : ℕ) : Type 0 where
  pub node : new.node number ≡ with_links (old.node number) ((old.node number).links - 1)
  pub marks : (other : ℕ) → IsInode super other → new.has_inode other ≡ old.has_inode other
  pub zone_marks : (zone : ℕ) → IsDataZone super zone → new.has_zone zone ≡ old.has_zone zone

-- an inode's bytes are zeros, its bit and those of the zones to which it had pointers are cleared, and no others
pub record FreesInode (super : Super) (old new : Parts) (number : ℕ) : Type 0 where
  pub node : new.node number ≡ no_inode
  pub mark : new.has_inode number ≡ false
  pub zone_marks : (at : Pointer) (zone : ℕ) → PointsTo super old number at zone → new.has_zone zone ≡ false
  pub other_marks : (other : ℕ) → IsInode super other → other ≢ number → new.has_inode other ≡ old.has_inode other
  pub other_zone_marks : (zone : ℕ) → IsDataZone super zone → ((at : Pointer) → PointsTo super old number at zone → ⊥)
      → new.has_zone zone ≡ old.has_zone zone

-- An inode of which a name of a directory went has a link less, or is freed where it had no more than one. Each other
-- inode is as before, and so are the bytes of each data zone to which the directory has no pointer.
pub record RemovesFile (super : Super) (old new : Parts) (directory number : ℕ) : Type 0 where
  pub lowered : 1 < (old.node number).links → LowersLinks super old new number
  pub freed : (old.node number).links ≤ 1 → FreesInode super old new number
  pub others : (other : ℕ) → IsInode super other → other ≢ number → new.node other ≡ old.node other
  pub bytes : (zone : ℕ) → IsDataZone super zone → ((at : Pointer) → PointsTo super old directory at zone → ⊥)
      → new.zone zone ≡ old.zone zone

-- each zone to which a directory points it pointed to before, by the same pointer
abbrev pub GainsNoZone : Super → Parts → Parts → ℕ → Type 0
GainsNoZone super old new directory = (at : Pointer) (zone : ℕ) → PointsTo super new directory at zone → PointsTo super old directory at zone

-- all places of directories are kept, whichever is left out: none is lost, and each that was free, or past the size, still is
abbrev pub KeepsEachPlace : Super → Parts → Parts → Type 0
KeepsEachPlace super old new = (directory place : ℕ) → KeepsPlaces super old new directory place

-- ---- sectors that aren't written

-- a sector of a disk is of no zone that a directory points to, none of the bitmaps, and not the one with an inode
pub record IsOffRemoved {D : Type 0} {disks : Ghosts D} (volume : Volume D disks) (directory number d s : ℕ) : Type 0 where
  pub zones : (at : Pointer) (zone : ℕ) → PointsTo (super_view volume.layout) (parts_now volume) directory at zone
      → IsOutside volume.span.disk (volume.span.start + zone_sector zone) 2 d s
  pub file : IsOffFile volume number d s

-- ---- the two changes in a row

-- some directory has the entry
pub record IsSomeTarget {D : Type 0} {disks : Ghosts D} (volume : Volume D disks) (target : Target) : Type 0 where
  pub directory : ℕ
  pub name : List ℕ
  pub is : IsTarget volume directory name target

-- An entry was cleared, and its inode let go: whatever a stop leaves, at any moment, is seen as before or has all names but
-- this one; once it is done the name is gone. No other sector was written, and it was refused as the disk failed.
pub record Takes {D : Type 0} {disks : Ghosts D} (old new : Volume D disks) (directory : ℕ) (name : List ℕ) (target : Target)
    (result : Result (Unit {0}) ZoneFault) : Type 0 where
  pub leads : (outer : List (List ℕ)) → (IsTold (past_of old) → reached (super_view old.layout) (parts_now old) outer ≡ Some directory)
      → LeadsPath old new (name ∷ outer) None None result
  pub file : IsTold (past_of old) → OnOk result (RemovesFile (super_view old.layout) (parts_now old) (parts_now new) directory target.inode)
  pub gains : IsTold (past_of old) → OnOk result (GainsNoZone (super_view old.layout) (parts_now old) (parts_now new) directory)
  pub places : IsTold (past_of old) → OnOk result (KeepsEachPlace (super_view old.layout) (parts_now old) (parts_now new))
  pub others : IsTold (past_of old) → (d s : ℕ) → IsOffRemoved old directory target.inode d s → NotWritten (past_of old) (past_of new) d s
  pub device : IsTold (past_of old) → HasDeviceCause old new zones.Device result
  -- what stays
  pub goes_on : GoesOn disks old.disks.now new.disks.now
  pub kept : KeepsVolume old new

-- so it was in each directory that has the entry
abbrev pub TakesAway : {D : Type 0} {disks : Ghosts D} → Volume D disks → Volume D disks → Target → Result (Unit {0}) ZoneFault → Type 0
TakesAway old new target result =
    (directory : ℕ) (name : List ℕ) → (IsTold (past_of old) → IsTarget old directory name target) → Takes old new directory name target result

-- ---- answers

-- the removal is refused, and nothing was done
pub record IsRefused {D : Type 0} {disks : Ghosts D} (start new : Volume D disks) (directory : ℕ) (name : List ℕ) (fault : WriteFault) : Type 0 where
  pub why : TreeFault
  pub is : refusal (super_view start.layout) (parts_now start) directory name ≡ Some why
  pub says : fault ≡ Tree why
  pub same : SameVolume start new

-- it isn't, or it is for what it is refused, or the disk failed
abbrev pub AnswersRight : {D : Type 0} {disks : Ghosts D} → Volume D disks → Volume D disks → ℕ → List ℕ → Result (Unit {0}) WriteFault → Type 0
AnswersRight start new directory name (Ok done) = refusal (super_view start.layout) (parts_now start) directory name ≡ None
AnswersRight start new directory name (Err fault) =
    ((fault ≡ Device) × Rose (faults_of start) (faults_of new)) ⊎ IsRefused start new directory name fault

-- ---- the whole

-- A name of a directory was removed: whatever a stop leaves, at any moment, is seen as before or has all names but this
-- one; once it is done the name is gone, and its inode is let go. No other sector was written.
pub record Removes {D : Type 0} {disks : Ghosts D} (start new : Volume D disks) (directory : ℕ) (name : List ℕ)
    (result : Result (Unit {0}) WriteFault) : Type 0 where
  pub leads : (outer : List (List ℕ)) → (IsTold (past_of start) → reached (super_view start.layout) (parts_now start) outer ≡ Some directory)
      → LeadsPath start new (name ∷ outer) None None result
  pub file : IsTold (past_of start) → OnOk result ((number : ℕ) → held_name (super_view start.layout) (parts_now start) directory name ≡ Some number
      → RemovesFile (super_view start.layout) (parts_now start) (parts_now new) directory number)
  pub gains : IsTold (past_of start) → OnOk result (GainsNoZone (super_view start.layout) (parts_now start) (parts_now new) directory)
  pub others : IsTold (past_of start) → (number : ℕ) → held_name (super_view start.layout) (parts_now start) directory name ≡ Some number
      → (d s : ℕ) → IsOffRemoved start directory number d s → NotWritten (past_of start) (past_of new) d s
  pub answers : IsTold (past_of start) → AnswersRight start new directory name result
  -- what stays
  pub goes_on : GoesOn disks start.disks.now new.disks.now
  pub kept : KeepsVolume start new
