-- What freeing waste answers, and what it leaves of a volume.
use Rattle.std.specs.Prelude.{◌≡◌, ℕ, Bool, true, false, List, Result, Ok, Err, OnOk, IfOk, IfErr, IsErr}
use Rattle.disk_trait.specs.declared.disks.Disks.{Ghosts}
use Rattle.disk_trait.specs.Calls.{GoesOn}
use Rattle.disk_trait.specs.Moments.{IsTold, now, IsQuiet, LeavesOnly}
use Rattle.disk_trait.specs.NotWritten.{NotWritten}
use Rattle.disk_trait.specs.Past.{Told}
use Rattle.lilo_model.specs.Disks.{Image}
use Rattle.lilo_model.specs.Faults.{Rose}
use Rattle.lilo_model.specs.MinixNames.{IsSound}
use Rattle.lilo_model.specs.MinixParts as model
use Rattle.lilo_model.specs.MinixParts.{parts_of}
use Rattle.lilo_model.specs.MinixSurvey.{Met, survey}
use Rattle.lilo_model.specs.MinixSurvey as refusals
use Rattle.ldisk_model.specs.Laid.{IsLaid}
use Rattle.ldisk_model.specs.Waste as waste
use Rattle.ldisk_model.specs.Waste.{IsReclaiming, IsReclaimed, freed_by}
use Rattle.minix_survey.specs.declared.findings.Findings.{Findings}
use Rattle.minix_survey.specs.declared.survey_fault.SurveyFault.{SurveyFault}
use Rattle.minix_survey.specs.declared.survey_fault.SurveyFault.TheVariants as surveys
use Rattle.minix_survey.specs.View.{Refuses}
use Rattle.minix_tree.specs.declared.tree_fault.TreeFault.TheVariants as trees
use Rattle.minix_zones.specs.declared.zone_fault.ZoneFault.TheVariants as zones
use Rattle.minix_layout.specs.View.{super_view}
use Rattle.minix_zones.specs.Volume.{volume_view, past_of, faults_of, KeepsVolume}
use Rattle.minix_zones.specs.declared.volume.Volume.{Volume}
use Rattle.minix_reclaim.specs.declared.fault.ReclaimFault.{ReclaimFault}
use Rattle.minix_reclaim.specs.declared.fault.ReclaimFault.TheVariants.{Survey, Device, Memory}
use Rattle.minix_reclaim.specs.declared.fault.ReclaimHalt.{ReclaimHalt}
use Rattle.minix_reclaim.specs.declared.waste.Freed.{Freed}
use Rattle.minix_reclaim.specs.Bitmap.{zone_bitmap, inode_bitmap}
use Rattle.minix_reclaim.specs.Cleared.{IsOffBitmaps}
use Rattle.minix_reclaim.specs.Frees.{IsWasteUnused, ClearsWaste, FreesMap, sectors_of}

-- how a refusal of a survey is reported
abbrev pub reclaim_fault : SurveyFault → ReclaimFault
reclaim_fault surveys.Memory = Memory
reclaim_fault (surveys.Tree (trees.Zone zones.Device)) = Device
reclaim_fault fault = Survey fault

-- whether a refusal says that nothing was done
abbrev pub is_refusal : ReclaimFault → Bool
is_refusal (Survey fault) = true
is_refusal Device = false
is_refusal Memory = true

-- where the disk failed, the count of faults rose
abbrev pub HasReclaimCause : ℕ → ℕ → ReclaimFault → Type 0
HasReclaimCause before now (Survey fault) = Unit {0}
HasReclaimCause before now Device = Rose before now
HasReclaimCause before now Memory = Unit {0}

-- the numbers that were freed
abbrev pub freed_view : Freed → waste.Freed
freed_view freed = record { zones = freed.zones; inodes = freed.inodes }

-- an answer is that of what a survey met, unless the disk failed or there was no memory
abbrev pub Answers : Result Freed ReclaimFault → model.Volume → Image → Result (List Met) refusals.SurveyFault → Type 0
Answers (Ok freed) volume image (Ok met) = freed_view freed ≡ freed_by volume.layout (parts_of volume image) met
Answers (Ok freed) volume image (Err fault) = ⊥
Answers (Err (Survey fault)) volume image found = Refuses fault found × IsErr found
Answers (Err Device) volume image found = Unit {0}
Answers (Err Memory) volume image found = Unit {0}

-- What freeing waste leaves of a volume, by its answer.
pub record Reclaims {D : Type 0} {disks : Ghosts D} (old new : Volume D disks) (result : Result Freed ReclaimFault) : Type 0 where
  pub answers : Told (past_of old) (λ now. Answers result (volume_view old) now (survey (super_view old.layout) (parts_of (volume_view old) now)))
  -- from a quiet moment and a sound volume on, each image that a stop leaves is sound, with the same Names, and each bit is
  -- as before or that of waste and clear
  pub any_moment : IsQuiet (past_of old) → IsSound (volume_view old) (now (past_of old))
      → LeavesOnly (past_of old) (past_of new) (IsReclaiming (volume_view old) (now (past_of old)))
  -- once it is done all waste is freed, and all is durable
  pub done : IsTold (past_of old) → IsLaid (volume_view old) (now (past_of old))
      → OnOk result (IsReclaimed (volume_view old) (now (past_of old)) (now (past_of new)))
  pub quiet : OnOk result (IsQuiet (past_of new))
  -- where it was refused, or is to be refused, there was no event; no sector but the bitmaps' is written
  pub refused : IfErr result (λ fault. is_refusal fault ≡ true → past_of new ≡ past_of old)
  pub unwritten : Told (past_of old) (λ now. IsErr (survey (super_view old.layout) (parts_of (volume_view old) now)) → past_of new ≡ past_of old)
  pub outside : (d s : ℕ) → IsOffBitmaps (volume_view old) d s → NotWritten (past_of old) (past_of new) d s
  pub cause : IfErr result (HasReclaimCause (faults_of old) (faults_of new))
  pub goes_on : GoesOn disks old.disks.now new.disks.now
  pub kept : KeepsVolume old new

-- ---- on the way there

-- the numbers that are freed of both bitmaps, and that all of it is durable
pub record FreesAll {D : Type 0} {disks : Ghosts D} (old new : Volume D disks) (found : Findings) (freed : Freed) : Type 0 where
  pub mid : Volume D disks
  pub zones : FreesMap old mid (zone_bitmap (super_view old.layout)) found (sectors_of (zone_bitmap (super_view old.layout))) (Ok freed.zones)
  pub last : Volume D disks
  pub inodes : FreesMap mid last (inode_bitmap (super_view old.layout)) found (sectors_of (inode_bitmap (super_view old.layout))) (Ok freed.inodes)
  pub same : now (past_of new) ≡ now (past_of last)
  pub quiet : IsQuiet (past_of new)

-- the bits of both bitmaps that have no use, by what a survey found, were cleared
pub record ReclaimsBy {D : Type 0} {disks : Ghosts D} (old new : Volume D disks) (found : Findings) (result : Result Freed ReclaimFault) : Type 0 where
  pub clears : (image : Image) → IsWasteUnused (volume_view old) image (zone_bitmap (super_view old.layout)) found
      → IsWasteUnused (volume_view old) image (inode_bitmap (super_view old.layout)) found → ClearsWaste old new image
  pub all : IfOk result (FreesAll old new found)
  pub device : IfErr result (λ fault. (fault ≡ Device) × Rose (faults_of old) (faults_of new))
  pub outside : (d s : ℕ) → IsOffBitmaps (volume_view old) d s → NotWritten (past_of old) (past_of new) d s
  pub goes_on : GoesOn disks old.disks.now new.disks.now
  pub kept : KeepsVolume old new

-- ---- a volume that is handed over and back

-- the volume at the end
abbrev pub end_of : {D : Type 0} {disks : Ghosts D} → Result (Volume D disks × Freed) (ReclaimHalt D disks) → Volume D disks
end_of (Ok done) = done.0
end_of (Err halt) = halt.volume

-- what was answered of it
abbrev pub answer_of : {D : Type 0} {disks : Ghosts D} → Result (Volume D disks × Freed) (ReclaimHalt D disks) → Result Freed ReclaimFault
answer_of (Ok done) = Ok done.1
answer_of (Err halt) = Err halt.fault
