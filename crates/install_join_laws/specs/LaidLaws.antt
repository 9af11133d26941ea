-- Where the new map lies in an installation, of what its steps ensured (rules of this project's own).
use Rattle.std.specs.Prelude.{◌≡◌, ℕ, Some, Result, Ok}
use Rattle.disk_trait.specs.declared.disks.Disks.{Ghosts}
use Rattle.disk_trait.specs.declared.disks.Span.{Span}
use Rattle.disk_trait.specs.Moments.{now, IsQuiet, MayLeave, LeavesOnly}
use Rattle.disk_trait.specs.Past.{Image}
use Rattle.lilo_model.specs.Lays.{Lays}
use Rattle.lilo_model.specs.MinixNames.{reached}
use Rattle.lilo_model.specs.MinixParts.{parts_of}
use Rattle.lilo_model.specs.Plan.{Plan}
use Rattle.lilo_model.specs.Planned as plans
use Rattle.lilo_model.specs.Settled as model
use Rattle.lilo_conf.specs.View.{config_view}
use Rattle.lilo_conf.specs.declared.config.Config.{Config}
use Rattle.minix_choice.specs.declared.write_fault.WriteFault.{WriteFault}
use Rattle.minix_zones.specs.View.{span_view}
use Rattle.minix_zones.specs.Volume.{volume_view, past_of}
use Rattle.minix_zones.specs.declared.volume.Volume.{Volume}
use Rattle.install_order.specs.States.{IsCommitted, TidiesFrom}
use Rattle.install_order.specs.declared.committed.Committed.{Committed}
use Rattle.install_order.specs.declared.planned.Planned.{Planned}
use Rattle.install_order.specs.declared.staged.Staged.{Staged}
use Rattle.install_order.specs.declared.surveyed.Surveyed.{Surveyed}
use Rattle.install_join_laws.specs.KeptLaws.{AreNamesOf}
use Rattle.install_join_laws.specs.Steps.{machine_on, HasPlanned, HasStaged, IsBegunWith, LiesOnDisks}

-- ---- the definitions

-- what the configuration maps once names are settled
abbrev pub planned_on : {D : Type 0} {disks : Ghosts D} → Volume D disks → Surveyed D disks → Plan
planned_on entry surveyed =
    plans.planned (now (past_of surveyed.volume)) (machine_on entry) (volume_view entry) (config_view surveyed.config) surveyed.time

-- An image has Lays of that: its map lies as it was planned, in the file at the path of `map` or at that with `~`, and its boot sector
-- has what stays of the one at the entry.
abbrev pub LaysPlanned : {D : Type 0} {disks : Ghosts D} → Volume D disks → Surveyed D disks → model.OwnNames → Image → Type 0
LaysPlanned entry surveyed names c =
    Lays c (machine_on entry) (volume_view entry) (span_view surveyed.boot) (planned_on entry surveyed) names.map
    (now (past_of entry) surveyed.boot.disk surveyed.boot.start)

-- and it lies in the file at the path of `map` itself
pub record LaysInMap {D : Type 0} {disks : Ghosts D} (entry : Volume D disks) (surveyed : Surveyed D disks) (names : model.OwnNames)
    (c : Image) : Type 0 where
  pub lays : LaysPlanned entry surveyed names c
  pub leads : reached (volume_view entry).layout (parts_of (volume_view entry) c) names.map ≡ Some lays.holder

-- ---- from the commit on

-- from the commit on, and in each image that a stop leaves then, the map lies as it was planned, also where tidying was refused
abbrev pub CommittedLaysLaw : {D : Type 0} → Ghosts D → Type 0
CommittedLaysLaw {D} disks =
    (entry new : Volume D disks) (config : Config) (boot : Span) (time : ℕ) (surveyed : Surveyed D disks) (planned : Planned D disks)
    (staged : Staged D disks) (committed : Committed D disks) (names : model.OwnNames) (result : Result (Unit {0}) WriteFault)
    → IsBegunWith entry config boot time surveyed → HasPlanned surveyed planned → LiesOnDisks entry surveyed
    → AreNamesOf entry surveyed names → HasStaged planned staged → IsCommitted staged committed → TidiesFrom committed new result
    → LeavesOnly (past_of committed.volume) (past_of new) (LaysPlanned entry surveyed names)

-- in each image that a stop leaves once it is done, it lies so in the file at the path of `map` itself
abbrev pub InstalledLaysLaw : {D : Type 0} → Ghosts D → Type 0
InstalledLaysLaw {D} disks =
    (entry new : Volume D disks) (config : Config) (boot : Span) (time : ℕ) (surveyed : Surveyed D disks) (planned : Planned D disks)
    (staged : Staged D disks) (committed : Committed D disks) (names : model.OwnNames)
    → IsBegunWith entry config boot time surveyed → HasPlanned surveyed planned → LiesOnDisks entry surveyed
    → AreNamesOf entry surveyed names → HasStaged planned staged → IsCommitted staged committed → TidiesFrom committed new (Ok tt)
    → IsQuiet (past_of new) → (c : Image) → MayLeave (past_of new) c → LaysInMap entry surveyed names c
