-- What a renaming leaves, and when it is refused (a rule of this project's own).
use Rattle.std.specs.Prelude.{◌≡◌, ◌≢◌, ◌+◌, ◌⊎◌, ◌==◌, nat_lt, ◌&&◌, not, ℕ, Bool, false, if◌then◌else◌, List, ◌∷◌, length, Option, Some, None, Result, Ok}
use Rattle.std.specs.Prelude.{Err, OnOk}
use Rattle.std.specs.Option.{option_or}
use Rattle.disk_trait.specs.declared.disks.Disks.{Ghosts}
use Rattle.disk_trait.specs.Calls.{GoesOn}
use Rattle.disk_trait.specs.Moments.{IsTold}
use Rattle.disk_trait.specs.NotWritten.{NotWritten}
use Rattle.disk_trait.specs.Range.{IsOutside}
use Rattle.lilo_model.specs.Faults.{Rose}
use Rattle.lilo_model.specs.MinixLayout.{Kind, name_size, most_links, zone_sector}
use Rattle.lilo_model.specs.MinixLayout as model
use Rattle.lilo_model.specs.MinixNames.{reached, PointsTo}
use Rattle.lilo_model.specs.MinixParts.{Parts, Pointer, is_file}
use Rattle.minix_change_laws.specs.Written.{FitsEntry}
use Rattle.minix_fill.specs.Freed.{IsOffFile}
use Rattle.minix_layout.specs.View.{kind_view, super_view}
use Rattle.minix_layout.specs.declared.superblock.Super.{Super}
use Rattle.minix_remove_laws.specs.Files.{KeepsFiles}
use Rattle.minix_remove_laws.specs.Held.{held_name}
use Rattle.minix_steps.specs.Written.{parts_now}
use Rattle.minix_tree.specs.declared.tree_fault.TreeFault.TheVariants.{NotFound, NotFile}
use Rattle.minix_choice.specs.declared.write_fault.WriteFault.{WriteFault}
use Rattle.minix_choice.specs.declared.write_fault.WriteFault.TheVariants.{Tree, NameTooLong, Links, Device}
use Rattle.minix_zones.specs.Volume.{past_of, faults_of, KeepsVolume, SameVolume, HasDeviceCause}
use Rattle.minix_zones.specs.declared.volume.Volume.{Volume}
use Rattle.minix_zones.specs.declared.zone_fault.ZoneFault.{ZoneFault}
use Rattle.minix_zones.specs.declared.zone_fault.ZoneFault.TheVariants as zones
use Rattle.minix_remove.specs.Moves.{MovesPath}
use Rattle.minix_remove.specs.Removed.{GainsNoZone, KeepsEachPlace, RemovesFile}
use Rattle.minix_remove.specs.Target.{FitsTarget, IsDirectoryNow, IsTarget}
use Rattle.minix_remove.specs.declared.renaming.Renaming.{Renaming}
use Rattle.minix_remove.specs.declared.target.Target.{Target}

-- ---- when it is refused

-- the name isn't there; the other is too long; or the name leads to no regular file
abbrev pub moved_refusal : Kind → Parts → List ℕ → Option ℕ → Option WriteFault
moved_refusal kind parts to None = Some (Tree (NotFound 0))
moved_refusal kind parts to (Some number) =
    if nat_lt (name_size kind) (length to) then Some NameTooLong else
    if is_file (parts.node number) then None else
    Some (Tree NotFile)

-- what is there by the other name is no regular file
abbrev pub former_refusal : Parts → Option ℕ → Option WriteFault
former_refusal parts None = None
former_refusal parts (Some former) = if is_file (parts.node former) then None else Some (Tree NotFile)

-- the other name is that of another inode, and the inode has as many links as it can
abbrev pub links_refusal : Kind → Parts → Option ℕ → Option ℕ → Option WriteFault
links_refusal kind parts None former = None
links_refusal kind parts (Some number) None = None
links_refusal kind parts (Some number) (Some former) =
    if not (former == number) && ((parts.node number).links == most_links kind) then Some Links else None

-- why a name of a directory doesn't become another: the first that is so
abbrev pub rename_refusal : model.Super → Parts → ℕ → List ℕ → List ℕ → Option WriteFault
rename_refusal super parts directory from to =
    option_or
    (moved_refusal super.kind parts to (held_name super parts directory from))
    (option_or
    (former_refusal parts (held_name super parts directory to))
    (links_refusal super.kind parts (held_name super parts directory from) (held_name super parts directory to)))

-- ---- the inodes and the bitmaps

-- Where the other name was absent, no inode and no bit is another, and no bytes but those of the directory's zones. Else the
-- inode to which it led has a link less, or is freed.
abbrev pub RenamesFiles : model.Super → Parts → Parts → ℕ → Option ℕ → Type 0
RenamesFiles super old new directory None = KeepsFiles super old new directory
RenamesFiles super old new directory (Some former) = RemovesFile super old new directory former

-- ---- sectors that aren't written

-- A sector of a disk is of no zone that a directory points to, and, where the other name was there, none of the bitmaps and
-- not the one with the inode of either name.
pub record IsOffRenamed {D : Type 0} {disks : Ghosts D} (volume : Volume D disks) (directory : ℕ) (from to : List ℕ) (d s : ℕ) : Type 0 where
  pub zones : (at : Pointer) (zone : ℕ) → PointsTo (super_view volume.layout) (parts_now volume) directory at zone
      → IsOutside volume.span.disk (volume.span.start + zone_sector zone) 2 d s
  pub files : (number former : ℕ) → held_name (super_view volume.layout) (parts_now volume) directory from ≡ Some number
      → held_name (super_view volume.layout) (parts_now volume) directory to ≡ Some former
      → IsOffFile volume number d s × IsOffFile volume former d s

-- ---- what is done

-- In each directory that a path leads to a name takes the place of another: at any moment, once it is done, also of the inodes,
-- the zones and the places, and what isn't written.
pub record Moves {D E : Type 0} {disks : Ghosts D} (old new : Volume D disks) (directory : ℕ) (from to : List ℕ) (result : Result (Unit {0}) E) : Type 0 where
  pub moves : (outer : List (List ℕ)) → (IsTold (past_of old) → reached (super_view old.layout) (parts_now old) outer ≡ Some directory)
      → MovesPath old new (from ∷ outer) (to ∷ outer) result
  pub files : IsTold (past_of old) → OnOk result
      (RenamesFiles (super_view old.layout) (parts_now old) (parts_now new) directory (held_name (super_view old.layout) (parts_now old) directory to))
  pub gains : IsTold (past_of old) → OnOk result (GainsNoZone (super_view old.layout) (parts_now old) (parts_now new) directory)
  pub places : IsTold (past_of old) → OnOk result (KeepsEachPlace (super_view old.layout) (parts_now old) (parts_now new))
  pub others : IsTold (past_of old) → (d s : ℕ) → IsOffRenamed old directory from to d s → NotWritten (past_of old) (past_of new) d s
  -- what stays
  pub goes_on : GoesOn disks old.disks.now new.disks.now
  pub kept : KeepsVolume old new

-- ---- what was found

-- what the other name leads to is absent, or fits a volume with this superblock
abbrev pub FitsFormer : Super → Option Target → Type 0
FitsFormer layout None = Unit {0}
FitsFormer layout (Some former) = FitsTarget layout former

-- it is another inode, and the one that is moved has as many links as it can
abbrev pub lacks_link : Kind → Target → Option Target → Bool
lacks_link kind moved None = false
lacks_link kind moved (Some former) = not (former.inode == moved.inode) && (moved.node.links == most_links kind)

-- both entries may lie on a volume with this superblock, and there is a link where one is needed
pub record FitsRenaming (layout : Super) (moved : Target) (former : Option Target) : Type 0 where
  pub from : FitsTarget layout moved
  pub to : FitsFormer layout former
  pub link : lacks_link (kind_view layout.kind) moved former ≡ false

-- the directory holds no other name, or this entry of it
abbrev pub IsFormer : {D : Type 0} {disks : Ghosts D} → Volume D disks → ℕ → List ℕ → Option Target → Type 0
IsFormer volume directory to None = held_name (super_view volume.layout) (parts_now volume) directory to ≡ None
IsFormer volume directory to (Some former) = IsTarget volume directory to former

-- the directory has the entry of the name, and that of another that it may have, where it is there
pub record IsRenaming {D : Type 0} {disks : Ghosts D} (volume : Volume D disks) (directory : ℕ) (from to : List ℕ) (moved : Target)
    (former : Option Target) : Type 0 where
  pub leads : IsTarget volume directory from moved
  pub over : IsFormer volume directory to former
  pub names : from ≢ to
  pub fits : FitsEntry (kind_view volume.layout.kind) to

-- some directory and name have it
pub record IsSomeRenaming {D : Type 0} {disks : Ghosts D} (volume : Volume D disks) (to : List ℕ) (moved : Target) (former : Option Target) : Type 0 where
  pub directory : ℕ
  pub from : List ℕ
  pub is : IsRenaming volume directory from to moved former

-- it was carried out, or the disk failed
pub record Carries {D : Type 0} {disks : Ghosts D} (old new : Volume D disks) (directory : ℕ) (from to : List ℕ)
    (result : Result (Unit {0}) ZoneFault) : Type 0 where
  pub moves : Moves old new directory from to result
  pub device : IsTold (past_of old) → HasDeviceCause old new zones.Device result

-- in each directory and from each name that have it
abbrev pub CarriesOut : {D : Type 0} {disks : Ghosts D} → Volume D disks → Volume D disks → List ℕ → Target → Option Target
    → Result (Unit {0}) ZoneFault → Type 0
CarriesOut old new to moved former result =
    (directory : ℕ) (from : List ℕ) → (IsTold (past_of old) → IsRenaming old directory from to moved former) → Carries old new directory from to result

-- ---- answers

-- it is refused, and nothing was done
pub record IsRenameRefused {D : Type 0} {disks : Ghosts D} (start new : Volume D disks) (directory : ℕ) (from to : List ℕ) (fault : WriteFault) : Type 0 where
  pub is : rename_refusal (super_view start.layout) (parts_now start) directory from to ≡ Some fault
  pub same : SameVolume start new

-- it isn't, or it is for what it is refused, or the disk failed
abbrev pub RenameAnswersRight : {D : Type 0} {disks : Ghosts D} → Volume D disks → Volume D disks → ℕ → List ℕ → List ℕ → Result (Unit {0}) WriteFault → Type 0
RenameAnswersRight start new directory from to (Ok done) = rename_refusal (super_view start.layout) (parts_now start) directory from to ≡ None
RenameAnswersRight start new directory from to (Err fault) =
    ((fault ≡ Device) × Rose (faults_of start) (faults_of new)) ⊎ IsRenameRefused start new directory from to fault

-- ---- the whole

-- A name of a directory took the place of another, or what it was refused for.
pub record Renames {D : Type 0} {disks : Ghosts D} (start new : Volume D disks) (directory : ℕ) (from to : List ℕ)
    (result : Result (Unit {0}) WriteFault) : Type 0 where
  pub moves : Moves start new directory from to result
  pub answers : IsTold (past_of start) → RenameAnswersRight start new directory from to result

-- ---- on the way there

-- what is renamed was found, or the renaming is refused, or the disk failed
abbrev pub FindsMoved : {D : Type 0} {disks : Ghosts D} → Volume D disks → ℕ → List ℕ → List ℕ → Result Target WriteFault → Type 0
FindsMoved volume directory from to (Ok moved) =
    IsTarget volume directory from moved
    × (moved_refusal (kind_view volume.layout.kind) (parts_now volume) to (held_name (super_view volume.layout) (parts_now volume) directory from) ≡ None)
FindsMoved volume directory from to (Err fault) =
    (fault ≡ Device) ⊎ (moved_refusal (kind_view volume.layout.kind) (parts_now volume) to
    (held_name (super_view volume.layout) (parts_now volume) directory from) ≡ Some fault)

abbrev pub GivesMoved : {D : Type 0} {disks : Ghosts D} → Volume D disks → ℕ → List ℕ → List ℕ → Result Target WriteFault → Type 0
GivesMoved volume directory from to result = IsTold (past_of volume) → IsDirectoryNow volume directory → FindsMoved volume directory from to result

-- so was what it is renamed over
abbrev pub FindsFormer : {D : Type 0} {disks : Ghosts D} → Volume D disks → ℕ → List ℕ → Result (Option Target) WriteFault → Type 0
FindsFormer volume directory to (Ok former) =
    IsFormer volume directory to former × (former_refusal (parts_now volume) (held_name (super_view volume.layout) (parts_now volume) directory to) ≡ None)
FindsFormer volume directory to (Err fault) =
    (fault ≡ Device) ⊎ (former_refusal (parts_now volume) (held_name (super_view volume.layout) (parts_now volume) directory to) ≡ Some fault)

abbrev pub GivesFormer : {D : Type 0} {disks : Ghosts D} → Volume D disks → ℕ → List ℕ → Result (Option Target) WriteFault → Type 0
GivesFormer volume directory to result = IsTold (past_of volume) → IsDirectoryNow volume directory → FindsFormer volume directory to result

-- both were, and a name that fits isn't refused
abbrev pub FindsRenaming : {D : Type 0} {disks : Ghosts D} → Volume D disks → ℕ → List ℕ → List ℕ → Result Renaming WriteFault → Type 0
FindsRenaming volume directory from to (Ok renaming) =
    IsTarget volume directory from renaming.moved × (IsFormer volume directory to renaming.former
    × (rename_refusal (super_view volume.layout) (parts_now volume) directory from to ≡ None))
FindsRenaming volume directory from to (Err fault) =
    (fault ≡ Device) ⊎ (rename_refusal (super_view volume.layout) (parts_now volume) directory from to ≡ Some fault)

abbrev pub GivesRenaming : {D : Type 0} {disks : Ghosts D} → Volume D disks → ℕ → List ℕ → List ℕ → Result Renaming WriteFault → Type 0
GivesRenaming volume directory from to result = IsTold (past_of volume) → IsDirectoryNow volume directory → FindsRenaming volume directory from to result
