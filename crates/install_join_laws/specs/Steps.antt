-- What the steps of an installation ensured, each of the one before it (install_order's), and where its disks lie.
use Rattle.std.specs.Prelude.{ℕ, true, IfSome, List, Ok}
use Rattle.disk_trait.specs.declared.disks.Disks.{Ghosts}
use Rattle.disk_trait.specs.declared.disks.Span.{Span}
use Rattle.disk_trait.specs.Moments.{IsTold, now, IsQuiet, IsWhole}
use Rattle.lilo_model.specs.Disks.{Machine, DiskSector}
use Rattle.lilo_model.specs.Settled as model
use Rattle.lilo_conf.specs.View.{config_view}
use Rattle.lilo_conf.specs.declared.config.Config.{Config}
use Rattle.mbr_table.specs.View.{device_view}
use Rattle.minix_zones.specs.View.{span_view}
use Rattle.minix_zones.specs.Volume.{volume_view, past_of, sizes_of, SameVolume}
use Rattle.minix_zones.specs.declared.volume.Volume.{Volume}
use Rattle.sector_address.specs.Machine.{machine_of, OnDisks}
use Rattle.install_laws.specs.InstallVerdict.{Begun}
use Rattle.install_order.specs.Answers.{IsFor, IsKnown, Leaves, Promises, Settled}
use Rattle.install_order.specs.Begins.{LiesThere}
use Rattle.install_order.specs.Checks.{GivesExamined}
use Rattle.install_order.specs.Plans.{AreSurveyed, IsPlannedFor, Surveys}
use Rattle.install_order.specs.Stageable.{GivesStage, IsReady}
use Rattle.install_order.specs.States.{IsStagedFor}
use Rattle.install_order.specs.View.{begun_of}
use Rattle.install_order.specs.declared.planned.Planned.{Planned}
use Rattle.install_order.specs.declared.staged.Staged.{Staged}
use Rattle.install_order.specs.declared.surveyed.Surveyed.{Surveyed}

-- the machine of a volume's disks
abbrev pub machine_on : {D : Type 0} {disks : Ghosts D} → Volume D disks → Machine
machine_on {D} {disks} volume = machine_of disks volume.disks.now

-- what an installation began with, on the volume as it was at its entry
abbrev pub begun_from : {D : Type 0} {disks : Ghosts D} → Volume D disks → Surveyed D disks → Begun
begun_from entry surveyed = begun_of entry surveyed.config surveyed.device surveyed.boot

-- ---- what the steps ensured

-- an installation began at a quiet moment, on disks that report their past: what `Surveyed::begin` ensures
pub record IsBegunWith {D : Type 0} {disks : Ghosts D} (entry : Volume D disks) (config : Config) (boot : Span) (time : ℕ)
    (surveyed : Surveyed D disks) : Type 0 where
  pub told : IsTold (past_of entry)
  pub quiet : IsQuiet (past_of entry)
  -- what it is for, and what was found at its entry
  pub held : IsFor config boot time true surveyed
  pub known : IsKnown surveyed
  pub found : IfSome config.boot (λ device. OnDisks disks entry.disks.now (λ image machine.
      GivesExamined image machine (volume_view entry) (config_view config) (device_view device) (span_view boot) (Ok surveyed.found)))
  -- what is settled
  pub leaves : IfSome config.boot (λ device. Leaves entry surveyed.volume (begun_of entry config device boot))
  pub settled : IfSome config.boot (λ device. Settled entry (begun_of entry config device boot) surveyed)
  pub promises : IfSome config.boot (λ device. Promises entry (begun_of entry config device boot) surveyed)
  pub surveys : IfSome config.boot (λ device. Surveys entry (begun_of entry config device boot) surveyed)
  -- it is quiet again
  pub quiet_after : IsQuiet (past_of surveyed.volume)

-- what was surveyed is planned: what `Surveyed::plan` ensures
pub record HasPlanned {D : Type 0} {disks : Ghosts D} (surveyed : Surveyed D disks) (planned : Planned D disks) : Type 0 where
  pub held : IsPlannedFor surveyed planned
  pub may : OnDisks disks surveyed.volume.disks.now (λ image machine. (names : model.OwnNames) (places : List DiskSector)
      → AreSurveyed image machine surveyed names places → GivesStage image machine surveyed names places (Ok planned))
  pub ready : IsReady planned
  pub same : SameVolume surveyed.volume planned.volume

-- it was staged up to a quiet moment: what `Planned::stage` ensures
pub record HasStaged {D : Type 0} {disks : Ghosts D} (planned : Planned D disks) (staged : Staged D disks) : Type 0 where
  pub stages : IsStagedFor planned staged
  pub quiet : IsQuiet (past_of staged.volume)

-- ---- the disks

-- At the entry each image that a stop may leave has 512 bytes in each sector that is there, and the boot device lies where the caller
-- found it.
pub record LiesOnDisks {D : Type 0} {disks : Ghosts D} (entry : Volume D disks) (surveyed : Surveyed D disks) : Type 0 where
  pub whole : IsWhole (sizes_of entry) (past_of entry)
  pub there : LiesThere (now (past_of entry)) (machine_on entry) (begun_from entry surveyed)
