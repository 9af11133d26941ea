-- The staging of a boot sector's backup: what it needs, what it leaves, and what it writes (a rule of this project's own).
use Rattle.std.specs.Prelude.{◌≡◌, ◌≢◌, ℕ, Bool, true, false, List, IfSome, Option, None, Some, Result, OnOk}
use Rattle.std.specs.Result.{IsOk}
use Rattle.disk_trait.specs.declared.disks.Disks.{Ghosts}
use Rattle.disk_trait.specs.Calls.{GoesOn}
use Rattle.disk_trait.specs.Moments.{IsTold, now, LeavesOnly}
use Rattle.disk_trait.specs.NotWritten.{NotWritten}
use Rattle.lilo_model.specs.Disks.{DiskSector, Image}
use Rattle.lilo_model.specs.MinixEntries.{is_dots}
use Rattle.lilo_model.specs.MinixNames.{names_in, reached}
use Rattle.lilo_model.specs.MinixParts as model
use Rattle.lilo_model.specs.MinixParts.{is_file, parts_of}
use Rattle.minix_create.specs.Chosen.{Suits, IsFreeNow, MayLinkNow}
use Rattle.minix_create.specs.Several.{AreApartOn}
use Rattle.minix_create.specs.declared.chosen.Chosen.{Chosen}
use Rattle.minix_layout.specs.View.{super_view}
use Rattle.minix_steps.specs.Written.{parts_now}
use Rattle.minix_choice.specs.declared.write_fault.WriteFault.{WriteFault}
use Rattle.minix_choice.specs.declared.write_fault.WriteFault.TheVariants.{Device}
use Rattle.minix_zones.specs.Volume.{volume_view, past_of, KeepsVolume, HasDeviceCause}
use Rattle.minix_zones.specs.declared.volume.Volume.{Volume}
use Rattle.install_apart.specs.declared.name.NamePair.{NamePair}
use Rattle.install_laws.specs.InstallVerdict.{last_name}
use Rattle.install_laws.specs.Writes.{IsApartSector, WritesOnly}
use Rattle.install_stage.specs.Within.{is_chosen, is_inode_of, IsKept, WritesJoin}
use Rattle.install_stage_laws.specs.Marked.{FreesAt, KeepsMarkedBut}
use Rattle.install_room.specs.Making.{MayMake}
use Rattle.install_room.specs.Names.{backup_of}
use Rattle.install_room.specs.Room.{IsForBackup}
use Rattle.install_settle.specs.Settles.{HasNames}
use Rattle.install_stage.specs.BackupStaged.{made_at, with_backup, IsStaging}

-- ---- what it needs

-- what is chosen is for a backup by the name that is found for it, at some time
pub record IsForSome (forced : Bool) (pair : Option NamePair) (backup : Option Chosen) : Type 0 where
  pub time : ℕ
  pub is : IsForBackup (backup_of forced pair) time backup

-- what is at a path may be replaced: it is a regular file, or nothing is
pub record MayReplace {D : Type 0} {disks : Ghosts D} (volume : Volume D disks) (path : List (List ℕ)) : Type 0 where
  pub plain : is_dots (last_name path) ≡ false
  pub file : IfSome (reached (super_view volume.layout) (parts_now volume) path) (λ number. is_file ((parts_now volume).node number) ≡ true)

-- What is chosen for a backup may be made where it is made, and may take the place of what is at its path, where that is asked for.
pub record MayStageFile {D : Type 0} {disks : Ghosts D} (volume : Volume D disks) (path : List (List ℕ)) (forced : Bool) (chosen : Chosen) : Type 0 where
  pub make : MayMake volume (made_at forced path) chosen
  pub over : forced ≡ true → MayReplace volume path

abbrev pub MayStage : {D : Type 0} {disks : Ghosts D} → Volume D disks → List (List ℕ) → Bool → Option Chosen → Type 0
MayStage volume path forced None = Unit {0}
MayStage volume path forced (Some chosen) = MayStageFile volume path forced chosen

-- so it may by some path
pub record MayStageSome {D : Type 0} {disks : Ghosts D} (volume : Volume D disks) (forced : Bool) (backup : Option Chosen) : Type 0 where
  pub path : List (List ℕ)
  pub may : MayStage volume path forced backup

-- ---- what is chosen for another file

-- it has neither of the names of a backup that is made
pub record HasOtherName (path : List (List ℕ)) (chosen other : Chosen) : Type 0 where
  pub made : other.directory ≡ chosen.directory → other.name ≢ chosen.name
  pub plain : other.directory ≡ chosen.directory → other.name ≢ last_name path

-- it suits the volume still, is free where it was, and so is its name
pub record IsStillFree {D : Type 0} {disks : Ghosts D} (start new : Volume D disks) (path : List (List ℕ)) (chosen other : Chosen) : Type 0 where
  pub suits : Suits new.layout new.span other
  pub free : IsFreeNow start other → IsFreeNow new other
  pub name : (outer : List (List ℕ)) → MayLinkNow start outer other → HasOtherName path chosen other → MayLinkNow new outer other

-- so is each that has nothing in common with what is chosen for the backup
abbrev pub LeavesRoom : {D : Type 0} {disks : Ghosts D} → Volume D disks → Volume D disks → List (List ℕ) → Chosen → Type 0
LeavesRoom start new path chosen =
    (other : Chosen) → Suits start.layout start.span other → AreApartOn start chosen other → IsStillFree start new path chosen other

-- ---- what is marked

-- a path leads to the inode that was chosen; beside it and its zones nothing is marked that wasn't, and what the path led to is freed
pub record MarksFile (volume : model.Volume) (path : List (List ℕ)) (chosen : Chosen) (old new : Image) : Type 0 where
  pub leads : reached volume.layout (parts_of volume new) path ≡ Some chosen.choice.inode
  pub only : KeepsMarkedBut volume.layout (is_inode_of chosen) (is_chosen chosen) (parts_of volume old) (parts_of volume new)
  pub frees : FreesAt volume.layout (parts_of volume old) path (parts_of volume new)

-- ---- the call

-- A backup was staged, or that was refused as the disk failed: what a stop leaves, at any moment from a quiet one on, and what the
-- disks hold; what is written, in terms of what a writer of files may; what is marked; and what is left free.
pub record StagesFile {D : Type 0} {disks : Ghosts D} (start new : Volume D disks) (path : List (List ℕ)) (forced : Bool) (present : List ℕ) (chosen : Chosen)
    (result : Result (Unit {0}) WriteFault) : Type 0 where
  pub any_moment : LeavesOnly (past_of start) (past_of new) (IsStaging (volume_view start) (now (past_of start)) forced path present)
  pub left : IsTold (past_of start) → IsStaging (volume_view start) (now (past_of start)) forced path present (now (past_of new))
  pub done : IsTold (past_of start) → OnOk result
      (HasNames (volume_view start) (now (past_of new)) (with_backup forced path present (names_in (volume_view start) (now (past_of start)))))
  -- what is written
  pub others : IsTold (past_of start) → (place : DiskSector) → IsKept start (is_chosen chosen) place
      → NotWritten (past_of start) (past_of new) place.disk place.sector
  pub only : WritesOnly (volume_view start) (is_chosen chosen) (past_of start) (past_of new)
  pub apart : IsTold (past_of start) → (d s : ℕ) → IsApartSector (volume_view start) d s → NotWritten (past_of start) (past_of new) d s
  pub joins : IsTold (past_of start) → OnOk result (WritesJoin start new chosen)
  -- what is marked, and what is left free
  pub marks : IsTold (past_of start) → OnOk result (MarksFile (volume_view start) path chosen (now (past_of start)) (now (past_of new)))
  pub room : IsTold (past_of start) → OnOk result (LeavesRoom start new path chosen)
  -- when it is refused, and what stays
  pub device : IsTold (past_of start) → HasDeviceCause start new Device result
  pub goes_on : GoesOn disks start.disks.now new.disks.now
  pub kept : KeepsVolume start new

-- where nothing is chosen, nothing is done
pub record StagesNothing {D : Type 0} {disks : Ghosts D} (start new : Volume D disks) (result : Result (Unit {0}) WriteFault) : Type 0 where
  pub ok : IsOk result
  pub same : new ≡ start

abbrev pub StagesBackup : {D : Type 0} {disks : Ghosts D} → Volume D disks → Volume D disks → List (List ℕ) → Bool → List ℕ → Option Chosen
    → Result (Unit {0}) WriteFault → Type 0
StagesBackup start new path forced present None result = StagesNothing start new result
StagesBackup start new path forced present (Some chosen) result = StagesFile start new path forced present chosen result
