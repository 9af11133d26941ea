-- What a call leaves that writes one sector of a disk and makes it durable (a rule of this project's own).
use Rattle.std.specs.Prelude.{◌≡◌, ◌⊎◌, List, ℕ, Result, Ok, Err}
use Rattle.lilo_model.specs.Disks.{DiskSector}
use Rattle.disk_trait.specs.declared.disks.Disks.{Ghosts}
use Rattle.disk_trait.specs.Past.{Image, with_sector}
use Rattle.disk_trait.specs.Moments.{now, IsQuiet, LeavesOnly}
use Rattle.disk_trait.specs.Calls.{SameOf, Writes, EndsWithFlush}

-- an image is another, or that one with these bytes in one sector
abbrev pub WithOrWithout : Image → DiskSector → List ℕ → Image → Type 0
WithOrWithout old place bytes c = (c ≡ old) ⊎ (c ≡ with_sector old place.disk place.sector bytes)

-- A call wrote these bytes into one sector and flushed. One that was refused has written them or hasn't.
pub record WritesPlace {D E : Type 0} (disks : Ghosts D) (old new : D) (place : DiskSector) (bytes : List ℕ) (result : Result (Unit {0}) E) : Type 0 where
  -- from a quiet moment on, a stop at any moment of it leaves what was held before, or has the sector too
  pub old_or_new : IsQuiet (disks.past old) → LeavesOnly (disks.past old) (disks.past new) (WithOrWithout (now (disks.past old)) place bytes)
  -- what the disks hold then, and what a stop leaves from any moment on; no other sector was written
  pub writes : Writes disks old new place.disk place.sector bytes result
  pub flushed : EndsWithFlush disks old new result

-- The same of a sector that was looked for: where there is none, nothing was done.
abbrev pub WritesFound : {D E F : Type 0} → Ghosts D → D → D → Result DiskSector F → List ℕ → Result (Unit {0}) E → Type 0
WritesFound disks old new (Ok place) bytes result = WritesPlace disks old new place bytes result
WritesFound disks old new (Err fault) bytes result = SameOf disks old new
