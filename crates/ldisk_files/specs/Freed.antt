-- What freeing waste answers, and what it leaves of the volume in a span (what is marked without a use: Waste).
use Rattle.std.specs.Prelude.{◌≡◌, ◌≢◌, ℕ, true, false, Result, Ok, Err, OnOk, IfErr}
use Rattle.disk_trait.specs.declared.disks.Disks.{Ghosts}
use Rattle.disk_trait.specs.Calls.{GoesOn}
use Rattle.disk_trait.specs.Moments.{IsTold, now, IsQuiet, LeavesOnly}
use Rattle.disk_trait.specs.NotWritten.{NotWritten}
use Rattle.disk_trait.specs.Past.{Told}
use Rattle.lilo_model.specs.Disks.{Image, Span}
use Rattle.lilo_model.specs.MinixParts.{Volume, volume_at}
use Rattle.ldisk_model.specs.FileVerdict.{FileRefusal, checked_status, freed_at}
use Rattle.ldisk_model.specs.Verdict.{is_in_bitmaps}
use Rattle.ldisk_model.specs.Waste as waste
use Rattle.ldisk_model.specs.Waste.{IsReclaiming, IsReclaimed}
use Rattle.minix_reclaim.specs.Reclaim.{Reclaims, freed_view}
use Rattle.minix_reclaim.specs.declared.fault.ReclaimFault.{ReclaimFault}
use Rattle.minix_reclaim.specs.declared.fault.ReclaimFault.TheVariants as reclaims
use Rattle.minix_reclaim.specs.declared.waste.Freed.{Freed}
use Rattle.minix_zones.specs.declared.volume.Volume as volumes
use Rattle.ldisk_files.specs.Answer.{Answers, HasFileCause, is_refusal}
use Rattle.ldisk_files.specs.Left.{HasSoundVolume}
use Rattle.ldisk_files.specs.declared.fault.FileFault.{FileFault}
use Rattle.ldisk_files.specs.declared.fault.FileFault.TheVariants.{Refused, Device, Memory}

-- how a refusal is reported
abbrev pub reclaim_fault : ReclaimFault → FileFault
reclaim_fault (reclaims.Survey fault) = Refused
reclaim_fault reclaims.Device = Device
reclaim_fault reclaims.Memory = Memory

-- the same of an answer
abbrev pub freed_answer : Result Freed ReclaimFault → Result Freed FileFault
freed_answer (Ok freed) = Ok freed
freed_answer (Err fault) = Err (reclaim_fault fault)

-- so much is freed as was checked, or a check refuses, unless the disk failed or memory ended
abbrev pub GivesFreed : Result waste.Freed FileRefusal → Result Freed FileFault → Type 0
GivesFreed check (Ok freed) = check ≡ Ok (freed_view freed)
GivesFreed check (Err fault) = Answers {B = Freed} check (Err fault)

-- of the waste of the volume that an image had in a span none or some is freed, and no more
pub record IsFreeing (span : Span) (old image : Image) : Type 0 where
  pub volume : Volume
  pub is : volume_at old span ≡ Ok volume
  pub has : IsReclaiming volume old image

-- all of it is freed
pub record IsFreed (span : Span) (old image : Image) : Type 0 where
  pub volume : Volume
  pub is : volume_at old span ≡ Ok volume
  pub has : IsReclaimed volume old image

-- waste of a volume was freed, and this was answered of it
pub record FreesOn {D : Type 0} {disks : Ghosts D} (old new : volumes.Volume D disks) (result : Result Freed FileFault) : Type 0 where
  pub answer : Result Freed ReclaimFault
  pub is : result ≡ freed_answer answer
  pub does : Reclaims old new answer

-- What freeing the waste of the volume in a span answers, and what it leaves.
pub record FreesWaste {D : Type 0} (disks : Ghosts D) (old new : D) (span : Span) (result : Result Freed FileFault) : Type 0 where
  pub answers : Told (disks.past old) (λ now. GivesFreed (freed_at now span) result)
  -- from a quiet moment and a sound volume on, no more than waste is freed in each image that a stop leaves
  pub any_moment : IsQuiet (disks.past old) → HasSoundVolume span (now (disks.past old))
      → LeavesOnly (disks.past old) (disks.past new) (IsFreeing span (now (disks.past old)))
  -- once it is done all waste is freed, and all is durable
  pub done : IsTold (disks.past old) → OnOk result (IsFreed span (now (disks.past old)) (now (disks.past new)))
  pub quiet : OnOk result (IsQuiet (disks.past new))
  -- where it was refused, or a check refuses, there was no event; no sector but those of the bitmaps is written
  pub refused : IfErr result (λ fault. is_refusal fault ≡ true → disks.past new ≡ disks.past old)
  pub unwritten : Told (disks.past old) (λ now. checked_status (freed_at now span) ≢ 0 → disks.past new ≡ disks.past old)
  pub outside : Told (disks.past old) (λ now. (d s : ℕ) → is_in_bitmaps (volume_at now span) d s ≡ false
      → NotWritten (disks.past old) (disks.past new) d s)
  pub goes_on : GoesOn disks old new
  -- a failure of the disks was counted
  pub cause : IfErr result (HasFileCause (disks.faults old) (disks.faults new))
