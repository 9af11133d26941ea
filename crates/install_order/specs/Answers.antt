-- What the beginning of an installation answers.
use Rattle.std.specs.Prelude.{◌≡◌, ℕ, Bool, true, is_some, Some, Result, Ok, Err}
use Rattle.disk_trait.specs.declared.disks.Disks.{Ghosts}
use Rattle.disk_trait.specs.declared.disks.Span.{Span}
use Rattle.disk_trait.specs.Calls.{GoesOn}
use Rattle.disk_trait.specs.Moments.{IsTold, now, IsQuiet, LeavesOnly}
use Rattle.disk_trait.specs.NotWritten.{NotWritten}
use Rattle.lilo_model.specs.ConfLawful.{IsLawful}
use Rattle.lilo_conf.specs.View.{config_view}
use Rattle.lilo_conf.specs.declared.config.Config.{Config}
use Rattle.minix_zones.specs.declared.volume.Volume.{Volume}
use Rattle.minix_zones.specs.Volume.{volume_view, past_of, KeepsVolume}
use Rattle.sector_address.specs.Machine.{machine_of}
use Rattle.install_stage_laws.specs.BeginLaws.{Begins}
use Rattle.install_laws.specs.InstallVerdict.{Begun}
use Rattle.install_laws.specs.Writes.{IsApartSector}
use Rattle.install_order.specs.Begins.{FitsVolume, LiesThere, IsBeginning, IsBegun, IsSurveyed, AnswersClear}
use Rattle.install_order.specs.View.{begun_of}
use Rattle.install_order.specs.declared.examination.Examined.{Examined}
use Rattle.install_order.specs.declared.fault.InstallFault.{InstallFault}
use Rattle.install_order.specs.declared.halt.Halt.{Halt}
use Rattle.install_order.specs.declared.surveyed.Surveyed.{Surveyed}

-- the volume that is held, or handed back
abbrev pub volume_in : {D : Type 0} {disks : Ghosts D} → Result (Surveyed D disks) (Halt D disks) → Volume D disks
volume_in (Ok surveyed) = surveyed.volume
volume_in (Err halt) = halt.volume

-- what was found, or why it was refused
abbrev pub found_in : {D : Type 0} {disks : Ghosts D} → Result (Surveyed D disks) (Halt D disks) → Result Examined InstallFault
found_in (Ok surveyed) = Ok surveyed.found
found_in (Err halt) = Err halt.fault

-- it is for this configuration, boot device and time, and settled or looked at
pub record IsFor {D : Type 0} {disks : Ghosts D} (config : Config) (boot : Span) (time : ℕ) (settled : Bool) (surveyed : Surveyed D disks) : Type 0 where
  pub config_is : surveyed.config ≡ config
  pub device_is : config.boot ≡ Some surveyed.device
  pub boot_is : surveyed.boot ≡ boot
  pub time_is : surveyed.time ≡ time
  pub settled_is : surveyed.settled ≡ settled

-- it is one that was looked at, and settled
pub record IsLookedAt {D : Type 0} {disks : Ghosts D} (looked surveyed : Surveyed D disks) : Type 0 where
  pub config_is : surveyed.config ≡ looked.config
  pub device_is : surveyed.device ≡ looked.device
  pub boot_is : surveyed.boot ≡ looked.boot
  pub time_is : surveyed.time ≡ looked.time
  pub found_is : surveyed.found ≡ looked.found
  pub settled_is : surveyed.settled ≡ true

-- ---- what is known of it

-- what was surveyed, as the model begins with it
abbrev pub begun_in : {D : Type 0} {disks : Ghosts D} → Surveyed D disks → Begun
begun_in surveyed = begun_of surveyed.volume surveyed.config surveyed.device surveyed.boot

-- What was surveyed is for a lawful configuration and its boot device, and fits the volume; and what the disks hold now is what
-- was surveyed, or is settled from it.
pub record IsKnown {D : Type 0} {disks : Ghosts D} (surveyed : Surveyed D disks) : Type 0 where
  pub lawful : IsLawful (config_view surveyed.config)
  pub device : surveyed.config.boot ≡ Some surveyed.device
  pub fits : FitsVolume surveyed.volume.layout (is_some surveyed.config.force_backup) surveyed.found
  pub known : IsTold (past_of surveyed.volume) → IsSurveyed (now (past_of surveyed.volume)) (machine_of disks surveyed.volume.disks.now)
      (begun_in surveyed) surveyed.found surveyed.settled

-- whether the map is Clear is answered by what the disks held
abbrev pub SaysClear : {D : Type 0} {disks : Ghosts D} → Volume D disks → Begun → Surveyed D disks → Type 0
SaysClear {D} {disks} old begun surveyed =
    IsTold (past_of old) → AnswersClear (now (past_of old)) (machine_of disks old.disks.now) begun surveyed.found.clear

-- ---- what is left

-- Whatever a stop leaves of a beginning, at any moment of it from a quiet one on; and it writes no sector outside the volume,
-- nor of its block 0.
pub record Leaves {D : Type 0} {disks : Ghosts D} (old new : Volume D disks) (begun : Begun) : Type 0 where
  pub any_moment : IsQuiet (past_of old) → LeavesOnly (past_of old) (past_of new) (IsBeginning (now (past_of old)) (machine_of disks old.disks.now) begun)
  pub outside : IsTold (past_of old) → (d s : ℕ) → IsApartSector (volume_view old) d s → NotWritten (past_of old) (past_of new) d s
  -- what stays
  pub goes_on : GoesOn disks old.disks.now new.disks.now
  pub kept : KeepsVolume old new

-- what was found of what disks held is settled on what they hold now
abbrev pub Settled : {D : Type 0} {disks : Ghosts D} → Volume D disks → Begun → Surveyed D disks → Type 0
Settled {D} {disks} old begun surveyed =
    IsTold (past_of old) → IsBegun (now (past_of old)) (machine_of disks old.disks.now) begun surveyed.found (now (past_of surveyed.volume))

-- so it promises what the headline asks of the beginning of an installation (install_laws' `Installs`)
abbrev pub Promises : {D : Type 0} {disks : Ghosts D} → Volume D disks → Begun → Surveyed D disks → Type 0
Promises {D} {disks} old begun surveyed =
    IsTold (past_of old) → LiesThere (now (past_of old)) (machine_of disks old.disks.now) begun
    → Begins begun.volume (machine_of disks old.disks.now) begun.span (past_of old) (past_of surveyed.volume)
