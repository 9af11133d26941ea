-- The steps of settling: the rename, and what is removed.
use Rattle.std.specs.Prelude.{◌≡◌, ℕ, false, List, None, Result, OnOk}
use Rattle.disk_trait.specs.declared.disks.Disks.{Ghosts}
use Rattle.disk_trait.specs.Calls.{GoesOn}
use Rattle.disk_trait.specs.Moments.{IsTold, now, LeavesOnly}
use Rattle.disk_trait.specs.NotWritten.{NotWritten}
use Rattle.lilo_model.specs.Disks.{Image, DiskSector}
use Rattle.lilo_model.specs.MinixParts as parts
use Rattle.lilo_model.specs.MinixParts.{Parts, is_directory}
use Rattle.lilo_model.specs.MinixNames.{IsSound}
use Rattle.lilo_model.specs.NamePlaces.{with_tilde}
use Rattle.minix_layout.specs.View.{super_view}
use Rattle.minix_remove.specs.Moves.{IsMoving}
use Rattle.minix_change_laws.specs.Tree.{HasTreeWith, HasTreeMoved}
use Rattle.minix_steps.specs.Written.{parts_now}
use Rattle.minix_turns.specs.Joined.{SeenOrWith}
use Rattle.minix_choice.specs.declared.write_fault.WriteFault.{WriteFault}
use Rattle.minix_choice.specs.declared.write_fault.WriteFault.TheVariants.{Device}
use Rattle.minix_zones.specs.Volume.{volume_view, past_of, KeepsVolume, HasDeviceCause}
use Rattle.minix_zones.specs.declared.volume.Volume.{Volume}
use Rattle.install_apart.specs.Names.{IsPair}
use Rattle.install_apart.specs.declared.name.NamePair.{NamePair}
use Rattle.install_apart.specs.declared.name.OwnName.{OwnName}
use Rattle.install_stage_laws.specs.BeginLaws.{GainsNothing}
use Rattle.install_laws.specs.Writes.{IsWritable}
use Rattle.install_settle.specs.At.{IsAt}
use Rattle.install_settle.specs.declared.settling.LeftMap.{LeftMap}
use Rattle.install_settle.specs.declared.settling.LeftMap.TheVariants.{Absent, Finish, Remove}

-- ---- what is at a name

-- some path of a sound volume does
pub record IsSomewhere {D : Type 0} {disks : Ghosts D} (volume : Volume D disks) (own : OwnName) : Type 0 where
  pub sound : IsSound (volume_view volume) (now (past_of volume))
  pub path : List (List ℕ)
  pub at : IsAt (super_view volume.layout) (parts_now volume) path own

-- some path and that with `~` end with a pair of names there
pub record IsSomePair {D : Type 0} {disks : Ghosts D} (volume : Volume D disks) (pair : NamePair) : Type 0 where
  pub sound : IsSound (volume_view volume) (now (past_of volume))
  pub path : List (List ℕ)
  pub names : IsPair (super_view volume.layout) (parts_now volume) path pair

-- ---- a step

-- A call left only images that have P, at any moment, and once it is done one that has Q, in which no inode refers to another
-- zone. It wrote only what a writer of files may, in no zone that wasn't a directory's, and it was refused as the disk failed.
pub record Does {D : Type 0} {disks : Ghosts D} (old new : Volume D disks) (P Q : Image → Type 0) (result : Result (Unit {0}) WriteFault) : Type 0 where
  pub any_moment : LeavesOnly (past_of old) (past_of new) P
  pub left : IsTold (past_of old) → P (now (past_of new))
  pub done : IsTold (past_of old) → OnOk result (Q (now (past_of new)))
  pub others : IsTold (past_of old) → (place : DiskSector) → (IsWritable (volume_view old) (now (past_of old)) (λ zone. false) place → ⊥)
      → NotWritten (past_of old) (past_of new) place.disk place.sector
  pub gains : IsTold (past_of old) → OnOk result (GainsNothing (volume_view old) (now (past_of old)) (now (past_of new)))
  pub device : IsTold (past_of old) → HasDeviceCause old new Device result
  pub goes_on : GoesOn disks old.disks.now new.disks.now
  pub kept : KeepsVolume old new

-- ---- what becomes of the map's names

abbrev pub IsMapLeft : parts.Volume → Image → List (List ℕ) → LeftMap → Image → Type 0
IsMapLeft volume old path Absent c = c ≡ old
IsMapLeft volume old path Finish c = IsMoving volume old (with_tilde path) path c
IsMapLeft volume old path Remove c = SeenOrWith volume old (with_tilde path) None None c

abbrev pub IsMapSettled : parts.Volume → Image → List (List ℕ) → LeftMap → Image → Type 0
IsMapSettled volume old path Absent c = c ≡ old
IsMapSettled volume old path Finish c = HasTreeMoved volume old c (with_tilde path) path
IsMapSettled volume old path Remove c = HasTreeWith volume old c (with_tilde path) None None

abbrev pub DoesMap : {D : Type 0} {disks : Ghosts D} → Volume D disks → Volume D disks → List (List ℕ) → LeftMap → Result (Unit {0}) WriteFault → Type 0
DoesMap old new path left result =
    Does old new (IsMapLeft (volume_view old) (now (past_of old)) path left) (IsMapSettled (volume_view old) (now (past_of old)) path left) result

-- a name is removed
abbrev pub DoesRemove : {D : Type 0} {disks : Ghosts D} → Volume D disks → Volume D disks → List (List ℕ) → Result (Unit {0}) WriteFault → Type 0
DoesRemove old new path result =
    Does old new (SeenOrWith (volume_view old) (now (past_of old)) path None None)
    (λ c. HasTreeWith (volume_view old) (now (past_of old)) c path None None) result
