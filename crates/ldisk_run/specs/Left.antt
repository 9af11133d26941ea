-- What a command leaves on the disks, by the status that it answers.
use Rattle.std.specs.Prelude.{◌≡◌, ◌≢◌, ◌⊎◌, ◌==◌, ℕ, Bool, true, false, List, [], ◌∷◌, Option, Some, None, Ok}
use Rattle.std.specs.List.{list_any}
use Rattle.disk_trait.specs.declared.disks.Disks.{Ghosts}
use Rattle.disk_trait.specs.Calls.{SameOf, GoesOn}
use Rattle.disk_trait.specs.Moments.{now, IsQuiet, IsWholeImage, LeavesOnly}
use Rattle.disk_trait.specs.NotWritten.{NotWritten}
use Rattle.lilo_model.specs.Devices.{Device}
use Rattle.lilo_model.specs.Disks.{Image, Machine, Span}
use Rattle.lilo_model.specs.Faults.{Rose}
use Rattle.lilo_model.specs.LdiskVerdict.{room_of}
use Rattle.lilo_model.specs.MinixNames.{Thing, File, Link, Directory, Other}
use Rattle.lilo_model.specs.Partitions.{span_of}
use Rattle.lilo_model.specs.Verdict.{Verdict}
use Rattle.sector_address.specs.Machine.{OnDisks}
use Rattle.ldisk_model.specs.Arguments.{Command, Make, Mkfs, Reclaim, Asked}
use Rattle.ldisk_model.specs.FileVerdict.{NameChange, NewDirectory, NewLink, NewFile}
use Rattle.ldisk_model.specs.Verdict.{command_verdict, image_after, may_write, name_change, only_reads}
use Rattle.ldisk_files.specs.Freed.{IsFreeing, IsFreed}
use Rattle.ldisk_files.specs.Inode.{HasChangedIn}
use Rattle.ldisk_files.specs.Left.{HasSoundVolume, IsNamed, IsEither}
use Rattle.ldisk_make.specs.Answer.{HasEmptyVolume}
use Rattle.minix_format.specs.Left.{IsPartlyMade}
use Rattle.ldisk_run.specs.Run.{IsFailure}

-- the command was carried out: the status is 0, or 12 where the sink failed
abbrev pub IsDone : ℕ → Type 0
IsDone status = (status ≡ 0) ⊎ (status ≡ 12)

-- whether a status says that a check refused, that the source failed, or that memory ended
abbrev pub is_refusal : ℕ → Bool
is_refusal status = list_any (λ known. known == status) (1 ∷ 3 ∷ 4 ∷ 5 ∷ 11 ∷ 13 ∷ [])

-- the status is that of a verdict, or of a failure
abbrev pub AnswersAs : Verdict → ℕ → Type 0
AnswersAs verdict status = (status ≡ verdict.status) ⊎ IsFailure status

-- After `mkfs` an image has an empty volume in the sectors of its device.
abbrev pub HasVolumeOf : Image → Machine → Command → Image → Type 0
HasVolumeOf old machine (Mkfs device kind inodes) image = HasEmptyVolume (span_of old machine device) kind inodes image
HasVolumeOf old machine command image = Unit {0}

-- the same of arguments
abbrev pub HasAskedVolume : Image → Machine → Option Asked → Image → Type 0
HasAskedVolume old machine (Some asked) image = HasVolumeOf old machine asked.command image
HasAskedVolume old machine None image = Unit {0}

-- what disks hold now
abbrev pub held_now : {D : Type 0} → Ghosts D → D → Image
held_now disks new = now (disks.past new)

-- in an image what was made at the path of a text at a time has its inode: mode, links, owner, times, and the holes of a
-- file; or that of what was there is let go. No bitmap bit is set but what is in use, and each other inode is as before
abbrev pub HasInodeOf : Span → Image → List ℕ → Option Thing → ℕ → Image → Type 0
HasInodeOf span old text (Some (File bytes)) time image = HasChangedIn span old text (Some (NewFile bytes, time)) image
HasInodeOf span old text (Some (Link target)) time image = HasChangedIn span old text (Some (NewLink target, time)) image
HasInodeOf span old text (Some Directory) time image = HasChangedIn span old text (Some (NewDirectory, time)) image
HasInodeOf span old text (Some Other) time image = Unit {0}
HasInodeOf span old text None time image = HasChangedIn span old text None image

-- the volume of a device in an image has its Names in another one, but for the one that was changed, and the inode of
-- what was made at a time
pub record IsChanged (old : Image) (machine : Machine) (time : ℕ) (change : NameChange) (image : Image) : Type 0 where
  pub span : Span
  pub room : room_of old machine change.device ≡ Ok span
  pub named : IsNamed span old change.path change.what image
  pub inode : HasInodeOf span old change.path change.what time image

-- it has the Names before the change, or those after it
pub record IsChanging (old : Image) (machine : Machine) (change : NameChange) (image : Image) : Type 0 where
  pub span : Span
  pub room : room_of old machine change.device ≡ Ok span
  pub either : IsEither span old change.path change.what image

-- a device has a sound volume
pub record HasSoundOn (image : Image) (machine : Machine) (device : Device) : Type 0 where
  pub span : Span
  pub room : room_of image machine device ≡ Ok span
  pub volume : HasSoundVolume span image

-- all waste of the volume of a device is freed
pub record IsFreedOn (old : Image) (machine : Machine) (device : Device) (image : Image) : Type 0 where
  pub span : Span
  pub room : room_of old machine device ≡ Ok span
  pub has : IsFreed span old image

-- none or some of it is, and no more
pub record IsFreeingOn (old : Image) (machine : Machine) (device : Device) (image : Image) : Type 0 where
  pub span : Span
  pub room : room_of old machine device ≡ Ok span
  pub has : IsFreeing span old image

-- an image is what the disks hold after the change of a name at a time, or, where none changes, exactly what is defined
abbrev pub IsAfterChange : Image → Machine → ℕ → Option NameChange → Option Image → Image → Type 0
IsAfterChange old machine time (Some change) defined image = IsChanged old machine time change image
IsAfterChange old machine time None defined image = defined ≡ Some image

-- an image is what the disks hold after a command that was carried out at a time, where a source gives these bytes
abbrev pub IsAfter : Image → Machine → ℕ → List ℕ → Command → Image → Type 0
IsAfter old machine time given (Reclaim device) image = IsFreedOn old machine device image
IsAfter old machine time given command image =
    IsAfterChange old machine time (name_change given command) (image_after old machine time command) image

-- the same of arguments
abbrev pub IsAskedDone : Image → Machine → ℕ → List ℕ → Option Asked → Image → Type 0
IsAskedDone old machine time given (Some asked) image = IsAfter old machine time given asked.command image
IsAskedDone old machine time given None image = old ≡ image

-- a stop at any moment leaves the Names before a change, or those after it, where the volume was sound
abbrev pub LeavesChanging : {D : Type 0} → Ghosts D → D → D → Image → Machine → Option NameChange → Type 0
LeavesChanging disks old new image machine (Some change) =
    HasSoundOn image machine change.device → LeavesOnly (disks.past old) (disks.past new) (IsChanging image machine change)
LeavesChanging disks old new image machine None = Unit {0}

-- the device whose waste a command frees
abbrev pub freed_device : Command → Option Device
freed_device (Reclaim device) = Some device
freed_device command = None

-- the same of arguments
abbrev pub asked_freed_device : Option Asked → Option Device
asked_freed_device (Some asked) = freed_device asked.command
asked_freed_device None = None

-- while waste is freed, a stop at any moment leaves the Names, and each bit as it was or clear where it was that of waste,
-- where the volume was sound
abbrev pub LeavesFreeing : {D : Type 0} → Ghosts D → D → D → Image → Machine → Option Device → Type 0
LeavesFreeing disks old new image machine (Some device) =
    HasSoundOn image machine device → LeavesOnly (disks.past old) (disks.past new) (IsFreeingOn image machine device)
LeavesFreeing disks old new image machine None = Unit {0}

-- whether a command makes an image: a partition table, or an empty volume
abbrev pub makes_image : Command → Bool
makes_image (Make parts) = true
makes_image (Mkfs device kind inodes) = true
makes_image command = false

-- the same of arguments
abbrev pub asked_makes_image : Option Asked → Bool
asked_makes_image (Some asked) = makes_image asked.command
asked_makes_image None = false

-- What the disks hold after a command at a time, on an image with so many sectors where it is new, where a source gives
-- these bytes.
pub record LeavesBy {D : Type 0} (disks : Ghosts D) (old new : D) (time : ℕ) (given : List ℕ) (sectors : ℕ) (command : Command)
    (status : ℕ) : Type 0 where
  pub done : OnDisks disks old (λ image machine. status ≡ 0 → IsAfter image machine time given command (now (disks.past new)))
  pub empty : OnDisks disks old (λ image machine. status ≡ 0 → IsWholeImage (disks.size_of old) image
      → HasVolumeOf image machine command (now (disks.past new)))
  pub any_moment : IsQuiet (disks.past old) → OnDisks disks old (λ image machine. LeavesChanging disks old new image machine (name_change given command))
  pub freeing : IsQuiet (disks.past old) → OnDisks disks old (λ image machine. LeavesFreeing disks old new image machine (freed_device command))
  -- while an image is made, a stop leaves in each sector what it held or what is defined for it
  pub partly : makes_image command ≡ true → IsQuiet (disks.past old) → OnDisks disks old (λ image machine.
      LeavesOnly (disks.past old) (disks.past new) (IsPartlyMade (image_after image machine time command) image))
  pub quiet : status ≡ 0 → only_reads command ≡ false → IsQuiet (disks.past new)
  pub refused : is_refusal status ≡ true → disks.past new ≡ disks.past old
  -- where a check refuses there was no event, whatever is answered
  pub unwritten : OnDisks disks old (λ image machine.
      (command_verdict image machine given sectors command).status ≢ 0 → disks.past new ≡ disks.past old)
  pub outside : OnDisks disks old (λ image machine. (d s : ℕ) → may_write image machine command d s ≡ false → NotWritten (disks.past old) (disks.past new) d s)
  pub same : only_reads command ≡ true → SameOf disks old new
  pub goes_on : GoesOn disks old new
  -- a failure of the disks was counted
  pub device : status ≡ 8 → Rose (disks.faults old) (disks.faults new)

-- The same after arguments; those that ask for nothing leave all as it was.
abbrev pub LeavesAsked : {D : Type 0} → Ghosts D → D → D → ℕ → List ℕ → Option Asked → ℕ → Type 0
LeavesAsked disks old new time given (Some asked) status = LeavesBy disks old new time given asked.sectors asked.command status
LeavesAsked disks old new time given None status = SameOf disks old new × (GoesOn disks old new × (status ≡ 1))
