-- What an installation keeps of names, of what its steps ensured (rules of this project's own).
use Rattle.std.specs.Prelude.{ℕ, List, Result, Ok}
use Rattle.disk_trait.specs.declared.disks.Disks.{Ghosts}
use Rattle.disk_trait.specs.declared.disks.DiskFault.{DiskFault}
use Rattle.disk_trait.specs.declared.disks.Span.{Span}
use Rattle.disk_trait.specs.Moments.{now, IsQuiet, MayLeave, LeavesOnly}
use Rattle.disk_trait.specs.Past.{Image}
use Rattle.lilo_model.specs.Settled as model
use Rattle.lilo_conf.specs.declared.config.Config.{Config}
use Rattle.mbr_table.specs.declared.device.Device.{Device}
use Rattle.minix_choice.specs.declared.write_fault.WriteFault.{WriteFault}
use Rattle.minix_zones.specs.Volume.{past_of, SameVolume}
use Rattle.minix_zones.specs.declared.volume.Volume.{Volume}
use Rattle.install_order.specs.Answers.{Leaves}
use Rattle.install_order.specs.Begins.{AreOwn, LiesThere}
use Rattle.install_order.specs.Commits.{Commits}
use Rattle.install_order.specs.States.{HaltsCommit, HaltsStaging, IsCommitted, StagesFrom, TidiesFrom, is_forced}
use Rattle.install_order.specs.View.{begun_of}
use Rattle.install_order.specs.declared.committed.Committed.{Committed}
use Rattle.install_order.specs.declared.halt.Halt.{Halt}
use Rattle.install_order.specs.declared.planned.Planned.{Planned}
use Rattle.install_order.specs.declared.staged.Staged.{Staged}
use Rattle.install_order.specs.declared.surveyed.Surveyed.{Surveyed}
use Rattle.install_stage.specs.MapFile.{map_bytes}
use Rattle.install_join_laws.specs.Kept.{HasBackup, HasOldMap, IsInstalled, Keeps, KeepsUnstaged}
use Rattle.install_join_laws.specs.Steps.{begun_from, machine_on, HasPlanned, HasStaged, IsBegunWith, LiesOnDisks}

-- ---- the definitions

-- these are the names that an installation replaces, by the image at its entry
abbrev pub AreNamesOf : {D : Type 0} {disks : Ghosts D} → Volume D disks → Surveyed D disks → model.OwnNames → Type 0
AreNamesOf entry surveyed names = AreOwn (now (past_of entry)) (begun_from entry surveyed) names

-- the bytes of the new map, whole
abbrev pub map_of : {D : Type 0} {disks : Ghosts D} → Volume D disks → Planned D disks → List ℕ
map_of entry planned = map_bytes (machine_on entry) planned.plan planned.room.places.items

-- an image keeps what an installation keeps, by the image at its entry
abbrev pub KeepsSince : {D : Type 0} {disks : Ghosts D} → Volume D disks → Surveyed D disks → Planned D disks → model.OwnNames → Image
    → Type 0
KeepsSince entry surveyed planned names =
    Keeps (now (past_of entry)) (machine_on entry) (begun_from entry surveyed) names (map_of entry planned)

-- ---- at every moment

-- whatever a stop leaves of a beginning, also of one that was refused, keeps all names but those that settling changes, and these as before
-- or as in Settled
abbrev pub BeginningKeepsLaw : {D : Type 0} → Ghosts D → Type 0
BeginningKeepsLaw {D} disks =
    (entry ended : Volume D disks) (config : Config) (device : Device) (boot : Span) (names : model.OwnNames)
    → IsQuiet (past_of entry) → LiesThere (now (past_of entry)) (machine_on entry) (begun_of entry config device boot)
    → AreOwn (now (past_of entry)) (begun_of entry config device boot) names
    → Leaves entry ended (begun_of entry config device boot)
    → LeavesOnly (past_of entry) (past_of ended)
    (KeepsUnstaged (now (past_of entry)) (machine_on entry) (begun_of entry config device boot) names)

-- so does one of an installation whose plan was refused, which writes nothing
abbrev pub PlanKeepsLaw : {D : Type 0} → Ghosts D → Type 0
PlanKeepsLaw {D} disks =
    (entry : Volume D disks) (config : Config) (boot : Span) (time : ℕ) (surveyed : Surveyed D disks) (halt : Halt D disks)
    (names : model.OwnNames)
    → IsBegunWith entry config boot time surveyed
    → LiesThere (now (past_of entry)) (machine_on entry) (begun_from entry surveyed) → AreNamesOf entry surveyed names
    → SameVolume surveyed.volume halt.volume
    → LeavesOnly (past_of entry) (past_of halt.volume)
    (KeepsUnstaged (now (past_of entry)) (machine_on entry) (begun_from entry surveyed) names)

-- at every moment since its entry an installation whose staging was refused keeps the others, the map and the backup
abbrev pub StagingKeepsLaw : {D : Type 0} → Ghosts D → Type 0
StagingKeepsLaw {D} disks =
    (entry : Volume D disks) (config : Config) (boot : Span) (time : ℕ) (surveyed : Surveyed D disks) (planned : Planned D disks)
    (halt : Halt D disks) (names : model.OwnNames)
    → IsBegunWith entry config boot time surveyed → HasPlanned surveyed planned
    → LiesThere (now (past_of entry)) (machine_on entry) (begun_from entry surveyed) → AreNamesOf entry surveyed names
    → HaltsStaging planned halt
    → LeavesOnly (past_of entry) (past_of halt.volume) (KeepsSince entry surveyed planned names)

-- so does one whose commit was refused
abbrev pub CommitKeepsLaw : {D : Type 0} → Ghosts D → Type 0
CommitKeepsLaw {D} disks =
    (entry : Volume D disks) (config : Config) (boot : Span) (time : ℕ) (surveyed : Surveyed D disks) (planned : Planned D disks)
    (staged : Staged D disks) (halt : Halt D disks) (names : model.OwnNames)
    → IsBegunWith entry config boot time surveyed → HasPlanned surveyed planned → LiesOnDisks entry surveyed
    → AreNamesOf entry surveyed names → HasStaged planned staged → HaltsCommit staged halt
    → LeavesOnly (past_of entry) (past_of halt.volume) (KeepsSince entry surveyed planned names)

-- and one that is committed, also where its tidying was refused
abbrev pub InstallationKeepsLaw : {D : Type 0} → Ghosts D → Type 0
InstallationKeepsLaw {D} disks =
    (entry new : Volume D disks) (config : Config) (boot : Span) (time : ℕ) (surveyed : Surveyed D disks) (planned : Planned D disks)
    (staged : Staged D disks) (committed : Committed D disks) (names : model.OwnNames) (result : Result (Unit {0}) WriteFault)
    → IsBegunWith entry config boot time surveyed → HasPlanned surveyed planned → LiesOnDisks entry surveyed
    → AreNamesOf entry surveyed names → HasStaged planned staged → IsCommitted staged committed → TidiesFrom committed new result
    → LeavesOnly (past_of entry) (past_of new) (KeepsSince entry surveyed planned names)

-- ---- until the commit is done

-- whatever a stop leaves of a staging, also of one that was refused, has the old map at its name
abbrev pub StagingMapLaw : {D : Type 0} → Ghosts D → Type 0
StagingMapLaw {D} disks =
    (entry new : Volume D disks) (config : Config) (boot : Span) (time : ℕ) (surveyed : Surveyed D disks) (planned : Planned D disks)
    (names : model.OwnNames) (result : Result (Unit {0}) WriteFault)
    → IsBegunWith entry config boot time surveyed → HasPlanned surveyed planned
    → LiesThere (now (past_of entry)) (machine_on entry) (begun_from entry surveyed) → AreNamesOf entry surveyed names
    → StagesFrom planned.volume new (is_forced planned) planned.present planned.plan planned.room result
    → LeavesOnly (past_of entry) (past_of new) (HasOldMap (now (past_of entry)) (machine_on entry) (begun_from entry surveyed) names)

-- and so has that of a commit
abbrev pub CommitMapLaw : {D : Type 0} → Ghosts D → Type 0
CommitMapLaw {D} disks =
    (entry ended : Volume D disks) (config : Config) (boot : Span) (time : ℕ) (surveyed : Surveyed D disks) (planned : Planned D disks)
    (staged : Staged D disks) (names : model.OwnNames) (result : Result (Unit {0}) DiskFault)
    → IsBegunWith entry config boot time surveyed → HasPlanned surveyed planned → LiesOnDisks entry surveyed
    → AreNamesOf entry surveyed names → HasStaged planned staged → Commits staged.volume ended staged.boot staged.sector result
    → LeavesOnly (past_of entry) (past_of ended) (HasOldMap (now (past_of entry)) (machine_on entry) (begun_from entry surveyed) names)

-- ---- from the commit on

-- from the commit on, and in each image that a stop leaves then, the backup is there
abbrev pub CommittedBackupLaw : {D : Type 0} → Ghosts D → Type 0
CommittedBackupLaw {D} disks =
    (entry new : Volume D disks) (config : Config) (boot : Span) (time : ℕ) (surveyed : Surveyed D disks) (planned : Planned D disks)
    (staged : Staged D disks) (committed : Committed D disks) (names : model.OwnNames) (result : Result (Unit {0}) WriteFault)
    → IsBegunWith entry config boot time surveyed → HasPlanned surveyed planned → LiesOnDisks entry surveyed
    → AreNamesOf entry surveyed names → HasStaged planned staged → IsCommitted staged committed → TidiesFrom committed new result
    → LeavesOnly (past_of committed.volume) (past_of new) (HasBackup (now (past_of entry)) (begun_from entry surveyed) names)

-- in each image that a stop leaves once it is done, the new map is there, whole, and so is the backup, and nothing is at their names
-- with `~`; beside the two no inode is marked that wasn't, or changed, and what they replaced is freed
abbrev pub InstalledLaw : {D : Type 0} → Ghosts D → Type 0
InstalledLaw {D} disks =
    (entry new : Volume D disks) (config : Config) (boot : Span) (time : ℕ) (surveyed : Surveyed D disks) (planned : Planned D disks)
    (staged : Staged D disks) (committed : Committed D disks) (names : model.OwnNames)
    → IsBegunWith entry config boot time surveyed → HasPlanned surveyed planned → LiesOnDisks entry surveyed
    → AreNamesOf entry surveyed names → HasStaged planned staged → IsCommitted staged committed → TidiesFrom committed new (Ok tt)
    → IsQuiet (past_of new) → (c : Image) → MayLeave (past_of new) c
    → IsInstalled (now (past_of entry)) (now (past_of surveyed.volume)) (begun_from entry surveyed) names (map_of entry planned) c
