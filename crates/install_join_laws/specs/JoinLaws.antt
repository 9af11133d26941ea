-- What an installation leaves at every moment, of what its steps ensured (rules of this project's own).
use Rattle.std.specs.Prelude.{◌≡◌, ℕ, List, ◌∷◌, Result}
use Rattle.disk_trait.specs.declared.disks.Disks.{Ghosts}
use Rattle.disk_trait.specs.declared.disks.Span.{Span}
use Rattle.disk_trait.specs.Moments.{now, IsQuiet}
use Rattle.disk_trait.specs.Past.{with_sector}
use Rattle.lilo_model.specs.Boot.{Boot}
use Rattle.lilo_model.specs.DefaultLine.{DefaultLine}
use Rattle.lilo_model.specs.Disks.{DiskSector}
use Rattle.lilo_model.specs.Meant.{meant}
use Rattle.lilo_model.specs.MinixNames.{names_in}
use Rattle.lilo_model.specs.Planned.{devices_in}
use Rattle.lilo_model.specs.Prompt.{Key}
use Rattle.lilo_conf.specs.View.{config_view}
use Rattle.lilo_conf.specs.declared.config.Config.{Config}
use Rattle.mbr_table.specs.declared.device.Device.{Device}
use Rattle.minix_choice.specs.declared.write_fault.WriteFault.{WriteFault}
use Rattle.minix_zones.specs.View.{span_view}
use Rattle.minix_zones.specs.Volume.{volume_view, past_of}
use Rattle.minix_zones.specs.declared.volume.Volume.{Volume}
use Rattle.install_laws.specs.Headline.{Headline, Means}
use Rattle.install_laws.specs.Stopped.{BootsAsEither, Prepares, StaysAsBefore}
use Rattle.install_order.specs.Answers.{Leaves}
use Rattle.install_order.specs.Begins.{LiesThere}
use Rattle.install_order.specs.States.{HaltsCommit, HaltsStaging, IsCommitted, IsStagedFor, StagesFrom, is_forced}
use Rattle.install_order.specs.View.{begun_of}
use Rattle.install_order.specs.declared.committed.Committed.{Committed}
use Rattle.install_order.specs.declared.halt.Halt.{Halt}
use Rattle.install_order.specs.declared.planned.Planned.{Planned}
use Rattle.install_order.specs.declared.staged.Staged.{Staged}
use Rattle.install_order.specs.declared.surveyed.Surveyed.{Surveyed}
use Rattle.install_room.specs.Room.{places_view}
use Rattle.install_settle.specs.Tidies.{Tidies}
use Rattle.install_join_laws.specs.Steps.{begun_from, machine_on, HasPlanned, HasStaged, IsBegunWith, LiesOnDisks}

-- ---- until the commit

-- Whatever a stop leaves of a beginning, also of one that was refused, boots as before, where the old map is Clear. So it is of a plan
-- that was refused, which writes nothing.
abbrev pub BeginningStopsLaw : {D : Type 0} → Ghosts D → Type 0
BeginningStopsLaw {D} disks =
    (entry ended : Volume D disks) (config : Config) (device : Device) (boot : Span)
    → IsQuiet (past_of entry) → LiesThere (now (past_of entry)) (machine_on entry) (begun_of entry config device boot)
    → Leaves entry ended (begun_of entry config device boot)
    → StaysAsBefore (machine_on entry) (volume_view entry) (span_view boot) (past_of entry) (past_of ended)

-- what is staged, or a part of it, promises what install_laws asks of an installation until its commit
abbrev pub StagingPreparesLaw : {D : Type 0} → Ghosts D → Type 0
StagingPreparesLaw {D} disks =
    (entry new : Volume D disks) (config : Config) (boot : Span) (time : ℕ) (surveyed : Surveyed D disks) (planned : Planned D disks)
    (result : Result (Unit {0}) WriteFault)
    → IsBegunWith entry config boot time surveyed → HasPlanned surveyed planned
    → LiesThere (now (past_of entry)) (machine_on entry) (begun_from entry surveyed)
    → StagesFrom planned.volume new (is_forced planned) planned.present planned.plan planned.room result
    → Prepares (machine_on entry) (volume_view entry) (span_view surveyed.boot) (past_of entry) (past_of surveyed.volume) (past_of new)

-- so whatever a stop leaves of a staging that was refused boots as before, where the old map is Clear
abbrev pub StagingStopsLaw : {D : Type 0} → Ghosts D → Type 0
StagingStopsLaw {D} disks =
    (entry : Volume D disks) (config : Config) (boot : Span) (time : ℕ) (surveyed : Surveyed D disks) (planned : Planned D disks)
    (halt : Halt D disks)
    → IsBegunWith entry config boot time surveyed → HasPlanned surveyed planned
    → LiesThere (now (past_of entry)) (machine_on entry) (begun_from entry surveyed)
    → HaltsStaging planned halt
    → StaysAsBefore (machine_on entry) (volume_view entry) (span_view surveyed.boot) (past_of entry) (past_of halt.volume)

-- ---- what is meant

-- what a configuration and its files mean, once names are settled
abbrev pub meant_from : {D : Type 0} {disks : Ghosts D} → Volume D disks → Surveyed D disks → DefaultLine → List Key → ℕ → Boot
meant_from entry surveyed =
    meant (config_view surveyed.config) (names_in (volume_view entry) (now (past_of surveyed.volume)))
    (devices_in (now (past_of surveyed.volume)) (machine_on entry))

-- a fact on the first of some places, which there is: that of a map's default line
pub record OfFirst (places : List DiskSector) (P : DiskSector → Type 0) : Type 0 where
  pub place : DiskSector
  pub rest : List DiskSector
  pub are : places ≡ place ∷ rest
  pub is : P place

-- once the boot sector is written over what was staged, the image means the configuration and its files
abbrev pub InstallationMeansLaw : {D : Type 0} → Ghosts D → Type 0
InstallationMeansLaw {D} disks =
    (entry : Volume D disks) (config : Config) (boot : Span) (time : ℕ) (surveyed : Surveyed D disks) (planned : Planned D disks)
    (staged : Staged D disks)
    → IsBegunWith entry config boot time surveyed → HasPlanned surveyed planned → LiesOnDisks entry surveyed → IsStagedFor planned staged
    → OfFirst (places_view planned.room) (λ place.
    Means (machine_on entry) (span_view surveyed.boot) place (meant_from entry surveyed)
    (with_sector (now (past_of staged.volume)) surveyed.boot.disk surveyed.boot.start staged.sector))

-- ---- the whole

-- an installation whose commit was refused leaves at every moment what boots as before or as is meant
abbrev pub InstallationCommitEndsLaw : {D : Type 0} → Ghosts D → Type 0
InstallationCommitEndsLaw {D} disks =
    (entry : Volume D disks) (config : Config) (boot : Span) (time : ℕ) (surveyed : Surveyed D disks) (planned : Planned D disks)
    (staged : Staged D disks) (halt : Halt D disks)
    → IsBegunWith entry config boot time surveyed → HasPlanned surveyed planned → LiesOnDisks entry surveyed → HasStaged planned staged
    → HaltsCommit staged halt
    → OfFirst (places_view planned.room) (λ place.
    BootsAsEither (machine_on entry) (volume_view entry) (span_view surveyed.boot) place (meant_from entry surveyed) (past_of entry)
    (past_of halt.volume))

-- one that is committed has the headline, also where its tidying was refused
abbrev pub InstallationLaw : {D : Type 0} → Ghosts D → Type 0
InstallationLaw {D} disks =
    (entry new : Volume D disks) (config : Config) (boot : Span) (time : ℕ) (surveyed : Surveyed D disks) (planned : Planned D disks)
    (staged : Staged D disks) (committed : Committed D disks) (path : List (List ℕ)) (directory : ℕ) (result : Result (Unit {0}) WriteFault)
    → IsBegunWith entry config boot time surveyed → HasPlanned surveyed planned → LiesOnDisks entry surveyed → HasStaged planned staged
    → IsCommitted staged committed → Tidies committed.volume new path directory result
    → OfFirst (places_view planned.room) (λ place.
    Headline (machine_on entry) (volume_view entry) (span_view surveyed.boot) place (meant_from entry surveyed) (past_of entry)
    (past_of staged.volume) (past_of committed.volume) (past_of new))
