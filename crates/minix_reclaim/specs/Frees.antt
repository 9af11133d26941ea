-- What a call leaves that clears the bits of one bitmap that have no use.
use Rattle.std.specs.Prelude.{◌≡◌, ◌<◌, ◌≤◌, ℕ, ◌+◌, ◌-◌, ◌*◌, ◌/◌, min, max, true, false, length, Result, OnOk, IfOk}
use Rattle.disk_trait.specs.declared.disks.Disks.{Ghosts}
use Rattle.disk_trait.specs.Calls.{GoesOn}
use Rattle.disk_trait.specs.Moments.{IsTold, now, MayLeave, LeavesOnly}
use Rattle.disk_trait.specs.NotWritten.{NotWritten, IsOther}
use Rattle.disk_trait.specs.Range.{IsOutside}
use Rattle.lilo_model.specs.Disks.{Image}
use Rattle.lilo_model.specs.MinixParts as model
use Rattle.minix_steps.specs.Free.{free_from}
use Rattle.minix_survey.specs.declared.findings.Findings.{Findings}
use Rattle.minix_zones.specs.Volume.{volume_view, past_of, KeepsVolume, HasDeviceCause}
use Rattle.minix_zones.specs.declared.volume.Volume.{Volume}
use Rattle.minix_zones.specs.declared.zone_fault.ZoneFault.{ZoneFault}
use Rattle.minix_zones.specs.declared.zone_fault.ZoneFault.TheVariants.{Device}
use Rattle.minix_reclaim.specs.declared.bitmap.Bitmap.{Bitmap}
use Rattle.minix_reclaim.specs.Bitmap.{is_used, IsNumberOf, sector_with, bit_with, marked, is_unused_on}
use Rattle.minix_reclaim.specs.Cleared.{IsWasteBit, HasCleared}

-- in an image each bit of a bitmap that is set and has no use, by what a survey found, is that of waste
abbrev pub IsWasteUnused : model.Volume → Image → Bitmap → Findings → Type 0
IsWasteUnused volume image bitmap found =
    (n : ℕ) → IsNumberOf bitmap n → marked volume image bitmap n ≡ true → is_used bitmap.of found n ≡ false
    → IsWasteBit volume image (sector_with bitmap n) (bit_with bitmap n)

-- what a call leaves of an image's waste: where no more than that was cleared before, no more is cleared at any moment
pub record ClearsWaste {D : Type 0} {disks : Ghosts D} (old new : Volume D disks) (image : Image) : Type 0 where
  pub any_moment : ((c : Image) → MayLeave (past_of old) c → HasCleared (volume_view old) image c)
      → LeavesOnly (past_of old) (past_of new) (HasCleared (volume_view old) image)
  pub after : IsTold (past_of old) → HasCleared (volume_view old) image (now (past_of old))
      → HasCleared (volume_view old) image (now (past_of new))

-- how many bits of a bitmap are in its first sectors
abbrev pub bits_in : Bitmap → ℕ → ℕ
bits_in bitmap index = min (bitmap.end - bitmap.origin) (4096 * index)

-- how many sectors have its bits
abbrev pub sectors_of : Bitmap → ℕ
sectors_of bitmap = (bitmap.end - bitmap.origin + 4095) / 4096

-- the first of the bits in a sector: bit 0 of the first one is for no number
abbrev pub first_in : ℕ → ℕ
first_in index = max 1 (4096 * index)

-- a call cleared the bits of a bitmap that have no use in one sector and counted them, and wrote no other sector; or it was
-- refused as the disk failed, and cleared them or not
pub record FreesSector {D : Type 0} {disks : Ghosts D} (old new : Volume D disks) (bitmap : Bitmap) (found : Findings) (index : ℕ)
    (result : Result ℕ ZoneFault) : Type 0 where
  pub clears : (image : Image) → IsWasteUnused (volume_view old) image bitmap found → ClearsWaste old new image
  pub freed : IsTold (past_of old) → OnOk result ((n : ℕ) → IsNumberOf bitmap n → (n - bitmap.origin) / 4096 ≡ index
      → is_used bitmap.of found n ≡ false → marked (volume_view old) (now (past_of new)) bitmap n ≡ false)
  pub count : IsTold (past_of old) → IfOk result (λ count. count
      ≡ length (free_from (is_unused_on (volume_view old) (now (past_of old)) bitmap found) (bitmap.origin + first_in index)
      (bits_in bitmap (index + 1) - first_in index)))
  pub few : IfOk result (λ count. count ≤ bits_in bitmap (index + 1) - first_in index)
  pub others : (d s : ℕ) → IsOther old.span.disk (old.span.start + (bitmap.sector + index)) d s → NotWritten (past_of old) (past_of new) d s
  pub device : HasDeviceCause old new Device result
  pub goes_on : GoesOn disks old.disks.now new.disks.now
  pub kept : KeepsVolume old new

-- the same of the first sectors of a bitmap, so many
pub record FreesMap {D : Type 0} {disks : Ghosts D} (old new : Volume D disks) (bitmap : Bitmap) (found : Findings) (index : ℕ)
    (result : Result ℕ ZoneFault) : Type 0 where
  pub clears : (image : Image) → IsWasteUnused (volume_view old) image bitmap found → ClearsWaste old new image
  pub freed : IsTold (past_of old) → OnOk result ((n : ℕ) → IsNumberOf bitmap n → (n - bitmap.origin) / 4096 < index
      → is_used bitmap.of found n ≡ false → marked (volume_view old) (now (past_of new)) bitmap n ≡ false)
  pub count : IsTold (past_of old) → IfOk result (λ count. count
      ≡ length (free_from (is_unused_on (volume_view old) (now (past_of old)) bitmap found) (bitmap.origin + 1) (bits_in bitmap index - 1)))
  pub few : IfOk result (λ count. count ≤ bits_in bitmap index - 1)
  pub others : (d s : ℕ) → IsOutside old.span.disk (old.span.start + bitmap.sector) index d s → NotWritten (past_of old) (past_of new) d s
  pub device : HasDeviceCause old new Device result
  pub goes_on : GoesOn disks old.disks.now new.disks.now
  pub kept : KeepsVolume old new
