-- What the steps of an installation ensured together (by install_order's and install_join_laws' definitions).
use Rattle.std.specs.Prelude.{◌≡◌, ◌≢◌, ◌++◌, ℕ, true, [], codes, Result, Ok, Err}
use Rattle.disk_trait.specs.declared.disks.Disks.{Ghosts}
use Rattle.disk_trait.specs.declared.disks.Phase.TheVariants.{Before, Commit, After}
use Rattle.disk_trait.specs.declared.disks.Span.{Span}
use Rattle.disk_trait.specs.Moments.{IsTold, now, IsQuiet}
use Rattle.lilo_conf.specs.declared.config.Config.{Config}
use Rattle.minix_zones.specs.Volume.{volume_view, past_of, KeepsVolume}
use Rattle.minix_zones.specs.declared.volume.Volume.{Volume}
use Rattle.lilo_model.specs.Settled as settles
use Rattle.stream_trait.specs.Shows.{SinkState, Shows}
use Rattle.install_run.specs.Texts.{fault_status, fault_text}
use Rattle.install_stage_laws.specs.BeginLaws.{GainsNothing}
use Rattle.install_laws.specs.InstallVerdict.{Begun}
use Rattle.install_laws.specs.Stopped.{StaysAsBefore}
use Rattle.install_laws.specs.Writes.{IsApartSector}
use Rattle.install_order.specs.Begins.{AreOwn, LiesThere}
use Rattle.install_order.specs.Stageable.{IsReady}
use Rattle.install_order.specs.States.{HaltsCommit, HaltsStaging, HaltsTidying, IsCommitted, IsTidiedFrom, MayBeTidied}
use Rattle.install_order.specs.declared.committed.Committed.{Committed}
use Rattle.install_order.specs.declared.fault.InstallFault.TheVariants.{Device}
use Rattle.install_order.specs.declared.halt.Halt.{Halt}
use Rattle.install_order.specs.declared.planned.Planned.{Planned}
use Rattle.install_order.specs.declared.staged.Staged.{Staged}
use Rattle.install_order.specs.declared.surveyed.Surveyed.{Surveyed}
use Rattle.install_order.specs.declared.tidied.Tidied.{Tidied}
use Rattle.install_join_laws.specs.Steps.{HasPlanned, HasStaged, IsBegunWith, machine_on}
use Rattle.install_run.specs.Keeps.{KeepsMost, WritesNoApart}
use Rattle.install_run.specs.Staged.{SparesClear}

-- ---- before the plan is carried out

-- what was begun with at a quiet moment is planned
pub record IsPrepared {D : Type 0} {disks : Ghosts D} (entry : Volume D disks) (config : Config) (boot : Span) (time : ℕ)
    (planned : Planned D disks) : Type 0 where
  pub surveyed : Surveyed D disks
  pub begun : IsTold (past_of entry) → IsQuiet (past_of entry) → IsBegunWith entry config boot time surveyed
  pub has : HasPlanned surveyed planned
  pub boot_is : planned.boot ≡ boot
  pub kept : KeepsVolume entry planned.volume

-- what may be staged, and committed then
pub record IsReadyToStage {D : Type 0} {disks : Ghosts D} (planned : Planned D disks) : Type 0 where
  pub ready : IsReady planned
  pub settled : planned.settled ≡ true
  pub apart : IsTold (past_of planned.volume) → IsApartSector (volume_view planned.volume) planned.boot.disk planned.boot.start

-- Whatever was done of it up to here leaves at any moment what boots as before, with the sectors of a Clear map, and keeps all names but those
-- that settling changes; and it wrote nothing outside of the volume.
pub record StaysBegun {D : Type 0} {disks : Ghosts D} (entry : Volume D disks) (begun : Begun) (ended : Volume D disks) : Type 0 where
  pub boots : IsQuiet (past_of entry) → LiesThere (now (past_of entry)) (machine_on entry) begun
      → StaysAsBefore (machine_on entry) begun.volume begun.span (past_of entry) (past_of ended)
  pub spares : IsQuiet (past_of entry) → LiesThere (now (past_of entry)) (machine_on entry) begun
      → SparesClear (machine_on entry) begun (past_of entry) (past_of ended)
  pub keeps : IsQuiet (past_of entry) → LiesThere (now (past_of entry)) (machine_on entry) begun → (names : settles.OwnNames)
      → AreOwn (now (past_of entry)) begun names → KeepsMost (machine_on entry) begun names (past_of entry) (past_of ended)
  pub outside : IsTold (past_of entry) → WritesNoApart begun.volume (past_of entry) (past_of ended)

-- where no disk failed, settling has gained nothing by its end
abbrev pub GainsUnlessLost : {D : Type 0} {disks : Ghosts D} → Volume D disks → Halt D disks → Type 0
GainsUnlessLost entry halt =
    IsTold (past_of entry) → halt.fault ≢ Device → GainsNothing (volume_view entry) (now (past_of entry)) (now (past_of halt.volume))

-- ---- carrying it out

-- it was carried out
pub record IsCarriedOut {D : Type 0} {disks : Ghosts D} (planned : Planned D disks) (tidied : Tidied D disks) : Type 0 where
  pub staged : Staged D disks
  pub stages : HasStaged planned staged
  pub committed : Committed D disks
  pub commits : IsCommitted staged committed
  pub may : MayBeTidied committed
  pub tidies : IsTidiedFrom committed tidied
  pub quiet : IsQuiet (past_of tidied.volume)

-- or a disk failed: in its staging, in the commit, or in tidying
pub data IsHalted {D : Type 0} {disks : Ghosts D} (planned : Planned D disks) (halt : Halt D disks) : Type 0 where
  HaltedStaging : halt.phase ≡ Before → HaltsStaging planned halt → IsHalted planned halt
  HaltedCommit : halt.phase ≡ Commit → (staged : Staged D disks) → HasStaged planned staged → HaltsCommit staged halt → IsHalted planned halt
  HaltedTidying : halt.phase ≡ After → (staged : Staged D disks) → HasStaged planned staged → (committed : Committed D disks) → IsCommitted staged committed
      → MayBeTidied committed → HaltsTidying committed halt → IsHalted planned halt

abbrev pub Carries : {D : Type 0} {disks : Ghosts D} → Planned D disks → Result (Tidied D disks) (Halt D disks) → Type 0
Carries planned (Ok tidied) = IsCarriedOut planned tidied
Carries planned (Err halt) = IsHalted planned halt

-- the volume in either
abbrev pub volume_after : {D : Type 0} {disks : Ghosts D} → Result (Tidied D disks) (Halt D disks) → Volume D disks
volume_after (Ok tidied) = tidied.volume
volume_after (Err halt) = halt.volume

-- It was carried out, and nothing more is shown; or it ended, and that is reported. On disks that report their past it ended as one failed.
pub data Finishes {D : Type 0} {disks : Ghosts D} (planned : Planned D disks) (status : ℕ) (ended : D) (old new : SinkState) : Type 0 where
  FinishedWhole : (tidied : Tidied D disks) → IsCarriedOut planned tidied → tidied.volume.disks.now ≡ ended → status ≡ 0 → Shows old [] new
      → Finishes planned status ended old new
  FinishedEarly : (halt : Halt D disks) → IsHalted planned halt → halt.volume.disks.now ≡ ended → (IsTold (past_of planned.volume) → halt.fault ≡ Device)
      → status ≡ fault_status halt.fault halt.phase → Shows old (codes "lilo: " ++ fault_text halt.fault halt.phase) new
      → Finishes planned status ended old new
