-- What a call that writes the default line answers, and what it leaves (this project's own).
use Rattle.std.specs.Prelude.{◌≡◌, ◌≤◌, ℕ, List, Result, Ok, Err, IsOk}
use Rattle.lilo_model.specs.Checks.{◌>>=◌, with_fault}
use Rattle.lilo_model.specs.Disks.{Machine, DiskSector}
use Rattle.lilo_model.specs.Slots.{Slot, place_at}
use Rattle.lilo_model.specs.BootSector as maps
use Rattle.lilo_model.specs.BootSector.{boot_at}
use Rattle.lilo_model.specs.LineShots as model
use Rattle.lilo_model.specs.LineShots.{judged_boot}
use Rattle.disk_trait.specs.declared.disks.Disks.{Ghosts}
use Rattle.disk_trait.specs.declared.disks.Phase.TheVariants.{Before, Commit, After}
use Rattle.disk_trait.specs.Calls.{SameOf}
use Rattle.lilo_model.specs.Faults.{Rose}
use Rattle.boot_map.specs.View.{boot_view}
use Rattle.boot_map.specs.declared.boot_sector.BootSector.{BootSector}
use Rattle.bios_model.specs.Writes.{WritesFound}
use Rattle.one_shot.specs.declared.shot.ShotFault.{ShotFault}
use Rattle.one_shot.specs.declared.shot.ShotFault.TheVariants.{LineTooLong, NotOurs, BadTable, NotFound, Device}

-- a fault is the refusal that was found; a disk failed before a write, or in one, and then there was a place for it
abbrev pub IsFault : {A : Type 0} → ShotFault → Result A model.ShotFault → Type 0
IsFault (LineTooLong size) found = found ≡ Err (model.LineTooLong size)
IsFault NotOurs found = found ≡ Err model.NotOurs
IsFault (BadTable entry) found = found ≡ Err (model.BadTable entry)
IsFault NotFound found = found ≡ Err model.NotFound
IsFault (Device Before) found = Unit {0}
IsFault (Device Commit) found = IsOk found
IsFault (Device After) found = ⊥

-- an answer is what was found: something, or the refusal
abbrev pub Answers : {A B : Type 0} → Result B ShotFault → Result A model.ShotFault → Type 0
Answers (Ok done) found = IsOk found
Answers (Err fault) found = IsFault fault found

-- the boot sector is the one that was judged, or refused so
abbrev pub Judges : Result BootSector ShotFault → Result maps.BootSector model.ShotFault → Type 0
Judges (Ok boot) found = found ≡ Ok (boot_view boot)
Judges (Err fault) found = IsFault fault found

-- the first sector of a slot, or that it names none
abbrev pub place_named : Machine → Slot → Result DiskSector model.ShotFault
place_named machine slot = with_fault (λ fault. model.NotFound) (place_at machine slot 0)

-- where the line of a text goes, by the bytes of a boot sector
abbrev pub shot_by : Machine → List ℕ → List ℕ → Result DiskSector model.ShotFault
shot_by machine bytes text = judged_boot text (boot_at bytes) >>= λ boot. place_named machine boot.line

-- A disk failed in the write of these bytes into the sector that was found, or in the flush of it: nothing was written
-- before it began, and from then on the count of faults rose. It has written them or hasn't.
pub record LostIn {D : Type 0} (disks : Ghosts D) (old new : D) (bytes : List ℕ) (found : Result DiskSector model.ShotFault) : Type 0 where
  -- the disks when the write began
  pub before : D
  pub same : SameOf disks old before
  pub later : disks.faults old ≤ disks.faults before
  pub writes : WritesFound {E = Unit {0}} disks before new found bytes (Err tt)
  pub rose : Rose (disks.faults before) (disks.faults new)

-- A call wrote these bytes into the sector that was found and made them durable, or was refused, as nothing was found
-- and then it did nothing, or as a disk failed.
pub record Puts {D : Type 0} (disks : Ghosts D) (old new : D) (bytes : List ℕ) (found : Result DiskSector model.ShotFault)
    (result : Result (Unit {0}) ShotFault) : Type 0 where
  pub answer : Answers result found
  pub writes : WritesFound disks old new found bytes result
  pub lost : result ≡ Err (Device Commit) → LostIn disks old new bytes found
