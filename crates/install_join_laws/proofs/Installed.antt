-- An installation that is committed has the headline, and one whose commit was refused boots as before or as is meant.
use Rattle.std.proofs.Common.{◌≡◌, ℕ, false, List, Option, Result, Ok, refl, ◌∙◌, subst}
use Rattle.disk_trait.specs.declared.disks.Disks.{Ghosts}
use Rattle.disk_trait.specs.declared.disks.Span as spans
use Rattle.disk_trait.specs.Moments.{IsTold, now, LeavesOnly}
use Rattle.disk_trait.specs.Past.{Past, with_sector}
use Rattle.lilo_model.specs.Disks.{Image, Machine, Span}
use Rattle.lilo_model.specs.MinixParts as model
use Rattle.map_laws.specs.Lies.{MapPlaces}
use Rattle.lilo_conf.specs.View.{config_view}
use Rattle.lilo_conf.specs.declared.config.Config as configs
use Rattle.mbr_table.specs.View.{device_view}
use Rattle.minix_choice.specs.declared.write_fault.WriteFault.{WriteFault}
use Rattle.minix_zones.specs.View.{span_view}
use Rattle.minix_zones.specs.Volume.{volume_view, past_of}
use Rattle.minix_zones.specs.declared.volume.Volume.{Volume}
use Rattle.install_laws.specs.Boots.{IsWithOrWithout}
use Rattle.install_laws.specs.Headline.{Headline, Installs}
use Rattle.install_laws.specs.Stopped.{BootsAsEither, Prepares}
use Rattle.install_laws.specs.Writes.{WritesOnly}
use Rattle.install_laws.proofs.Headline.{headline_law}
use Rattle.install_laws.proofs.Stopped.{commit_ends_law}
use Rattle.install_order.specs.States.{HaltsCommit, IsCommitted}
use Rattle.install_order.specs.declared.committed.Committed.{Committed}
use Rattle.install_order.specs.declared.halt.Halt.{Halt}
use Rattle.install_order.specs.declared.planned.Planned.{Planned}
use Rattle.install_order.specs.declared.staged.Staged.{Staged}
use Rattle.install_order.specs.declared.surveyed.Surveyed.{Surveyed}
use Rattle.install_stage.specs.Stages.{room_zones}
use Rattle.install_stage_laws.proofs.Committed.{staged_tidies_law}
use Rattle.install_settle.specs.Tidies.{Tidies}
use Rattle.install_join_laws.specs.JoinLaws.{InstallationCommitEndsLaw, InstallationLaw, meant_from}
use Rattle.install_join_laws.specs.Steps.{HasPlanned, HasStaged, IsBegunWith, LiesOnDisks, machine_on}
use Rattle.install_join_laws.proofs.Begun.{plan-view-same}
use Rattle.install_join_laws.proofs.Prepared.{prepared-staged}
use Rattle.install_join_laws.proofs.Staged.{first-of, five, means, names, staged-room, told-staged}

module _ {D : Type 0} {disks : Ghosts D} (entry : Volume D disks) (config : configs.Config) (boot : spans.Span) (time : ℕ) (surveyed : Surveyed D disks) (planned : Planned D disks)
    (staged : Staged D disks) (is : IsBegunWith entry config boot time surveyed) (has : HasPlanned surveyed planned) (lies : LiesOnDisks entry surveyed) (did : HasStaged planned staged) where
  abbrev View : model.Volume
  View = volume_view entry

  abbrev M : Machine
  M = machine_on entry

  abbrev S : Span
  S = span_view surveyed.boot

  abbrev There : Image
  There = now (past_of staged.volume)

  abbrev places : MapPlaces
  places = (five entry config boot time surveyed planned staged is has lies did.stages).at

  prepares : Prepares M View S (past_of entry) (past_of surveyed.volume) (past_of staged.volume)
  prepares = prepared-staged entry config boot time surveyed planned is has lies.there staged.volume (Ok tt) did.stages.stages

  boot-same : staged.boot ≡ surveyed.boot
  boot-same = did.stages.boot_is ∙ has.held.boot_is

  -- the commit is of the span that was surveyed
  either-way : (ended : Option Past) → LeavesOnly (past_of staged.volume) ended (IsWithOrWithout There (span_view staged.boot) staged.sector)
      → LeavesOnly (past_of staged.volume) ended (IsWithOrWithout There S staged.sector)
  either-way ended run = subst (λ (b : spans.Span). LeavesOnly (past_of staged.volume) ended (IsWithOrWithout There (span_view b) staged.sector)) boot-same run

  -- where it was refused
  module _ (halt : Halt D disks) (halts : HaltsCommit staged halt) where
    pub ends : BootsAsEither M View S places.line (meant_from entry surveyed) (past_of entry) (past_of halt.volume)
    ends =
        commit_ends_law M View S places.line (meant_from entry surveyed) staged.sector (past_of entry) (past_of surveyed.volume) (past_of staged.volume) (past_of halt.volume) prepares
        (means entry config boot time surveyed planned staged is has lies did.stages) (either-way (past_of halt.volume) (halts.commits.any_moment did.quiet))

  -- where it was made
  module _ (new : Volume D disks) (committed : Committed D disks) (path : List (List ℕ)) (directory : ℕ) (result : Result (Unit {0}) WriteFault) (commits : IsCommitted staged committed)
      (tidies : Tidies committed.volume new path directory result) where
    told : IsTold (past_of staged.volume)
    told = told-staged entry config boot time surveyed planned staged is has lies did.stages

    committed-is : now (past_of committed.volume) ≡ with_sector There S.disk S.start staged.sector
    committed-is = subst (λ (b : spans.Span). now (past_of committed.volume) ≡ with_sector There b.disk b.start staged.sector) boot-same (commits.commits.written told)

    view-committed : volume_view committed.volume ≡ View
    view-committed =
        let one : volume_view committed.volume ≡ volume_view staged.volume = rw (commits.commits.kept.same_span, commits.commits.kept.same_layout) refl in
        let two : volume_view staged.volume ≡ volume_view planned.volume = rw (did.stages.stages.kept.same_span, did.stages.stages.kept.same_layout) refl in
        one ∙ (two ∙ plan-view-same entry config boot time surveyed is planned has)

    tidy-writes : WritesOnly View (λ zone. false) (past_of committed.volume) (past_of new)
    tidy-writes = subst (λ (v : model.Volume). WritesOnly v (λ zone. false) (past_of committed.volume) (past_of new)) view-committed tidies.only

    installs : Installs M View S places.line (meant_from entry surveyed) staged.sector (past_of entry) (past_of surveyed.volume) (past_of staged.volume) (past_of committed.volume) (past_of new)
    installs =
        let room = staged-room entry config boot time surveyed planned staged is has lies did.stages in
        record {
          told = (prepares.told.0, prepares.told.1, commits.commits.goes_on.told told);
          begin = prepares.begin;
          begin_boot = prepares.begin_boot;
          stage = prepares.stage;
          stage_boot = prepares.stage_boot;
          means = means entry config boot time surveyed planned staged is has lies did.stages;
          commit = either-way (past_of committed.volume) (commits.commits.any_moment did.quiet);
          committed_is = committed-is;
          tidy = staged_tidies_law (now (past_of surveyed.volume)) M View S (config_view surveyed.config) (device_view surveyed.device) surveyed.time (room_zones planned.room)
              places staged.sector (names entry config boot time surveyed planned staged is has lies did.stages).map (past_of staged.volume) (past_of committed.volume) (past_of new) room.is committed-is tidy-writes;
        }

    pub headline : Headline M View S places.line (meant_from entry surveyed) (past_of entry) (past_of staged.volume) (past_of committed.volume) (past_of new)
    headline =
        headline_law M View S places.line (meant_from entry surveyed) staged.sector (past_of entry) (past_of surveyed.volume) (past_of staged.volume) (past_of committed.volume) (past_of new) installs

pub installation_commit_ends_law : {D : Type 0} (disks : Ghosts D) → InstallationCommitEndsLaw disks
installation_commit_ends_law disks entry config boot time surveyed planned staged halt is has lies did halts =
    first-of entry config boot time surveyed planned staged is has lies did.stages
    (λ place. BootsAsEither (machine_on entry) (volume_view entry) (span_view surveyed.boot) place (meant_from entry surveyed) (past_of entry) (past_of halt.volume))
    (ends entry config boot time surveyed planned staged is has lies did halt halts)

pub installation_law : {D : Type 0} (disks : Ghosts D) → InstallationLaw disks
installation_law disks entry new config boot time surveyed planned staged committed path directory result is has lies did commits tidies =
    first-of entry config boot time surveyed planned staged is has lies did.stages
    (λ place. Headline (machine_on entry) (volume_view entry) (span_view surveyed.boot) place (meant_from entry surveyed) (past_of entry) (past_of staged.volume) (past_of committed.volume) (past_of new))
    (headline entry config boot time surveyed planned staged is has lies did new committed path directory result commits tidies)
