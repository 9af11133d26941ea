-- What a turn leaves: it writes one sector of a volume and flushes, from a quiet moment to a quiet one (a rule of this
-- project's own). Sectors are counted from the start of the volume.
use Rattle.std.specs.Prelude.{◌≡◌, ◌⊎◌, ◌+◌, ℕ, List, Result, OnOk}
use Rattle.disk_trait.specs.declared.disks.Disks.{Ghosts}
use Rattle.disk_trait.specs.Past.{Image}
use Rattle.disk_trait.specs.Moments.{IsTold, now, begun, IsQuiet, LeavesOnly}
use Rattle.disk_trait.specs.NotWritten.{WritesNoOther}
use Rattle.disk_trait.specs.Calls.{GoesOn}
use Rattle.lilo_model.specs.MinixParts as model
use Rattle.minix_zones.specs.Volume.{volume_view, past_of, KeepsVolume, HasDeviceCause}
use Rattle.minix_zones.specs.declared.volume.Volume.{Volume}
use Rattle.minix_steps.specs.Written.{with_sector_of}

-- an image is another, or has these bytes in one sector more
abbrev pub WithOrWithout : model.Volume → Image → ℕ → List ℕ → Image → Type 0
WithOrWithout volume old sector bytes c = (c ≡ old) ⊎ (c ≡ with_sector_of volume old sector bytes)

-- A call wrote these bytes into one sector and flushed. One that was refused with this error has written them or hasn't.
pub record Turns {D E : Type 0} {disks : Ghosts D} (old new : Volume D disks) (sector : ℕ) (bytes : List ℕ) (error : E)
    (result : Result (Unit {0}) E) : Type 0 where
  -- whatever a stop leaves, at any moment of it, is what was held before, or has the sector too
  pub any_moment : LeavesOnly (past_of old) (past_of new) (WithOrWithout (volume_view old) (now (past_of old)) sector bytes)
  -- what the disks hold now
  pub written : IsTold (past_of old) → OnOk result (now (past_of new) ≡ with_sector_of (volume_view old) (now (past_of old)) sector bytes)
  pub made : IsTold (past_of old) → (now (past_of new) ≡ with_sector_of (volume_view old) (now (past_of old)) sector bytes)
      ⊎ (now (past_of new) ≡ now (past_of old))
  -- and what a stop leaves then
  pub quiet : OnOk result (IsQuiet (past_of new))
  pub durable : OnOk result (begun (past_of new) ≡ now (past_of new))
  -- it wrote no other sector
  pub others : WritesNoOther old.span.disk (old.span.start + sector) (past_of old) (past_of new)
  -- when it is refused, and what stays
  pub device : HasDeviceCause old new error result
  pub goes_on : GoesOn disks old.disks.now new.disks.now
  pub kept : KeepsVolume old new
