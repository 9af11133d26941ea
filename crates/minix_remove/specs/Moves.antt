-- A name that is put in the place of another on a Minix volume, which may be absent (a rule of this project's own). A path is
-- a list of components, the last one first.
use Rattle.std.specs.Prelude.{◌≢◌, ◌⊎◌, ℕ, List, None, Result, OnOk}
use Rattle.disk_trait.specs.declared.disks.Disks.{Ghosts}
use Rattle.disk_trait.specs.Calls.{GoesOn}
use Rattle.disk_trait.specs.Past.{Image}
use Rattle.disk_trait.specs.Moments.{IsTold, now, LeavesOnly}
use Rattle.lilo_model.specs.MinixNames.{names_in, reached}
use Rattle.lilo_model.specs.MinixParts as model
use Rattle.lilo_model.specs.MinixParts.{parts_of}
use Rattle.minix_change_laws.specs.Sees.{SeenAsIn}
use Rattle.minix_change_laws.specs.Tree.{HasTreeWith, HasTreeMoved}
use Rattle.minix_zones.specs.Volume.{volume_view, past_of, KeepsVolume}
use Rattle.minix_zones.specs.declared.volume.Volume.{Volume}

-- in an image both paths lead to what the first one led to; the second one led somewhere
pub record LeadsBoth (volume : model.Volume) (old : Image) (former path : List (List ℕ)) (c : Image) : Type 0 where
  pub stood : reached volume.layout (parts_of volume old) path ≢ None
  pub tree : HasTreeWith volume old c path (reached volume.layout (parts_of volume old) former) (names_in volume old former)

-- an image is seen as before, or both paths lead to the one inode, or the second alone leads there
abbrev pub IsMoving : model.Volume → Image → List (List ℕ) → List (List ℕ) → Image → Type 0
IsMoving volume old former path c = SeenAsIn volume old c ⊎ (LeadsBoth volume old former path c ⊎ HasTreeMoved volume old c former path)

-- A call puts one name in the place of another: what it leaves at any moment of it and after it, and once it is done.
pub record MovesPath {D E : Type 0} {disks : Ghosts D} (old new : Volume D disks) (former path : List (List ℕ)) (result : Result (Unit {0}) E) : Type 0 where
  pub any_moment : LeavesOnly (past_of old) (past_of new) (IsMoving (volume_view old) (now (past_of old)) former path)
  pub held : IsTold (past_of old) → IsMoving (volume_view old) (now (past_of old)) former path (now (past_of new))
  pub done : IsTold (past_of old) → OnOk result (HasTreeMoved (volume_view old) (now (past_of old)) (now (past_of new)) former path)
  -- what stays
  pub goes_on : GoesOn disks old.disks.now new.disks.now
  pub kept : KeepsVolume old new
