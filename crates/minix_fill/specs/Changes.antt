-- What steps in a row change of a volume, and where (a rule of this project's own).
use Rattle.std.specs.Prelude.{ℕ, ◌+◌, ◌*◌, Result, OnOk, IfErr}
use Rattle.disk_trait.specs.declared.disks.Disks.{Ghosts}
use Rattle.disk_trait.specs.Moments.{IsTold}
use Rattle.disk_trait.specs.NotWritten.{NotWritten}
use Rattle.disk_trait.specs.Range.{IsOutside}
use Rattle.lilo_model.specs.MinixParts as model
use Rattle.lilo_model.specs.MinixParts.{Parts}
use Rattle.minix_steps.specs.Steps.{Steps}
use Rattle.minix_steps.specs.Written.{parts_now}
use Rattle.minix_zones.specs.View.{HasZoneCause}
use Rattle.minix_zones.specs.Volume.{volume_view, past_of, faults_of, HasDeviceCause}
use Rattle.minix_zones.specs.declared.volume.Volume.{Volume}
use Rattle.minix_zones.specs.declared.zone_fault.ZoneFault.{ZoneFault}
use Rattle.minix_zones.specs.declared.zone_fault.ZoneFault.TheVariants.{Device}

-- A call took steps, which no name sees. Where it answered Ok the parts of the volume changed as is said; of some sectors
-- it wrote none.
pub record Changes {D : Type 0} {disks : Ghosts D} (old new : Volume D disks) (Off : ℕ → ℕ → Type 0) (Changed : model.Volume → Parts → Parts → Type 0)
    (result : Result (Unit {0}) ZoneFault) : Type 0 where
  pub steps : Steps old new
  pub changed : IsTold (past_of old) → OnOk result (Changed (volume_view old) (parts_now old) (parts_now new))
  pub others : (d s : ℕ) → Off d s → NotWritten (past_of old) (past_of new) d s
  -- when it is refused: of disks that report their past, as they failed alone
  pub device : IsTold (past_of old) → HasDeviceCause old new Device result
  pub cause : IfErr result (HasZoneCause (faults_of old) (faults_of new))

-- a sector of a disk is none of the two bitmaps of a volume
abbrev pub IsOffMaps : {D : Type 0} {disks : Ghosts D} → Volume D disks → ℕ → ℕ → Type 0
IsOffMaps volume d s =
    IsOutside volume.span.disk (volume.span.start + 4) (2 * (volume.layout.imap + volume.layout.zmap)) d s
