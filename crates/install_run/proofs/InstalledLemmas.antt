-- What an installation answers and leaves, from how far it came.
use Rattle.std.proofs.Common.{◌≡◌, ◌⊎◌, ◌++◌, ◌∙◌, ℕ, ◌==◌, List, [], ◌∷◌, Bool, true, not, Option, Some, None, Result, Ok, Err, codes, refl, sym, ap, subst, subst₂, inl, inr, arith, append-nil}
use Rattle.std.proofs.lemmas.Bool.{false≢true}
use Rattle.std.specs.Prelude.{◌≢◌, IfSome, IsErr, IsTrue, is_some}
use Rattle.std.specs.List.{concat, list_any}
use Rattle.disk_trait.specs.declared.disks.Disks.{Ghosts}
use Rattle.disk_trait.specs.declared.disks.DiskFault.{DiskFault}
use Rattle.disk_trait.specs.declared.disks.DiskFault.TheVariants.{Failed}
use Rattle.disk_trait.specs.declared.disks.Phase.{Phase}
use Rattle.disk_trait.specs.declared.disks.Phase.TheVariants.{Before, Commit, After}
use Rattle.disk_trait.specs.declared.disks.Span as spans
use Rattle.disk_trait.specs.Calls.{GoesOn}
use Rattle.disk_trait.specs.Moments.{IsTold, now, IsQuiet, IsWhole, LeavesOnly, MayLeave}
use Rattle.disk_trait.proofs.LawLemmas.{end_of_run_law}
use Rattle.disk_trait.specs.Past.{Past, with_sector}
use Rattle.disk_trait.proofs.MomentLemmas.{leaves_weaker, told_now}
use Rattle.lilo_model.specs.Disks.{Image, Machine, DiskSector}
use Rattle.lilo_model.specs.Lays.{Lays}
use Rattle.lilo_model.specs.Mapped.{mapped_sectors}
use Rattle.lilo_model.specs.Meant.{meant}
use Rattle.lilo_model.specs.MinixNames.{names_in}
use Rattle.lilo_model.specs.MinixParts as parts
use Rattle.lilo_model.specs.Plan.{Plan, plan_sectors}
use Rattle.lilo_model.specs.Planned as plans
use Rattle.lilo_model.specs.Planned.{devices_in}
use Rattle.lilo_model.specs.Settled as settles
use Rattle.lilo_conf.specs.View.{config_view}
use Rattle.lilo_conf.specs.declared.config.Config as configs
use Rattle.mbr_table.specs.declared.device.Device as devices
use Rattle.lilo_model.specs.MinixParts.{volume_at}
use Rattle.minix_zones.specs.View as volumes
use Rattle.minix_zones.specs.declared.zone_fault.ZoneFault.{ZoneFault}
use Rattle.minix_zones.specs.declared.zone_fault.ZoneFault.TheVariants as zones
use Rattle.minix_zones.specs.Volume.{volume_view, past_of, sizes_of, faults_of, Syncs}
use Rattle.minix_zones.specs.declared.volume.Volume.{Volume}
use Rattle.sector_address.specs.Machine.{machine_of, OnDisks}
use Rattle.stream_trait.specs.Shows.{SinkState, Shows}
use Rattle.stream_trait.proofs.ShowsLemmas.{shows_join}
use Rattle.install_run.specs.AnswerLaws.{IsRefusal}
use Rattle.install_run.specs.Texts.{device_line, device_status, fault_status, fault_text}
use Rattle.install_run.proofs.LawLemmas.{status_law, text_law}
use Rattle.install_run.proofs.StatusLemmas.{of_status}
use Rattle.install_laws.specs.Headline.{Means}
use Rattle.install_laws.specs.InstallVerdict.{Answer, Begun, InstallRefusal, answer_text, verdict_by}
use Rattle.install_laws.specs.Stopped.{BootsAsEither, Prepares, StaysAsBefore}
use Rattle.install_laws.proofs.Stopped.{prepares_law}
use Rattle.install_order.specs.Begins.{AreOwn, HasNothingLeft, LiesThere}
use Rattle.install_order.specs.Checks.{StaysRefused}
use Rattle.install_order.specs.Faults.{HasInstallCause, IsStopped, Refuses}
use Rattle.install_order.specs.Answers as orders
use Rattle.install_order.specs.Commits.{Commits}
use Rattle.install_order.specs.States.{HaltsCommit, HaltsStaging, IsCommitted, MayBeTidied, StagesFrom, StopsStaging, TidiesFrom, is_forced}
use Rattle.install_order.specs.View.{begun_of}
use Rattle.install_order.specs.declared.committed.Committed.{Committed}
use Rattle.install_order.specs.declared.fault.InstallFault.{InstallFault}
use Rattle.install_order.specs.declared.fault.InstallFault.TheVariants as faults
use Rattle.install_order.specs.declared.halt.Halt.{Halt}
use Rattle.install_order.specs.declared.planned.Planned.{Planned}
use Rattle.install_order.specs.declared.staged.Staged.{Staged}
use Rattle.install_order.specs.declared.surveyed.Surveyed.{Surveyed}
use Rattle.install_settle.specs.Tidies.{Tidies}
use Rattle.install_stage_laws.specs.BeginLaws.{GainsNothing}
use Rattle.minix_choice.specs.declared.write_fault.WriteFault.{WriteFault}
use Rattle.install_begin.specs.Begin as begins
use Rattle.install_run.specs.Previews.{AnswersVerdict, answer_to, zone_verdict}
use Rattle.install_run.proofs.PreviewStateLemmas.{told_from}
use Rattle.install_run.proofs.TrialLemmas.{of_some}
use Rattle.install_join_laws.specs.Kept.{HasBackup, Keeps}
use Rattle.install_join_laws.specs.KeptLaws.{map_of}
use Rattle.install_join_laws.specs.LaidLaws.{planned_on}
use Rattle.install_join_laws.specs.JoinLaws.{meant_from}
use Rattle.install_join_laws.specs.Steps.{HasStaged, IsBegunWith, LiesOnDisks, begun_from, machine_on}
use Rattle.install_join_laws.proofs.Begun as beginnings
use Rattle.install_join_laws.proofs.Begun.{examined, leaves, may-stage, plan-view-same}
use Rattle.install_join_laws.proofs.Installed.{installation_commit_ends_law, installation_law}
use Rattle.install_join_laws.proofs.Kept.{beginning_keeps_law, staging_keeps_law, staging_map_law}
use Rattle.install_join_laws.proofs.KeptInstalled.{commit_keeps_law, commit_map_law, committed_backup_law, installation_keeps_law, installed_law}
use Rattle.install_join_laws.proofs.LaidInstalled.{committed_lays_law}
use Rattle.install_join_laws.proofs.Prepared.{staging_prepares_law, staging_stops_law}
use Rattle.install_join_laws.proofs.Staged.{installation_means_law}
use Rattle.install_run.specs.Answers.{AnswersInstall, Answered, GivesInstall, LostEarly, LostLater, Starved, IsDiskFault, IsSettledFrom, is_install_status, settled_answer}
use Rattle.install_room.specs.Room.{places_view}
use Rattle.map_sectors.specs.Map.{plan_view}
use Rattle.install_run.specs.Keeps.{HasInstalled, IsBefore, IsDone, KeepsMost, KeepsOldMap, KeepsWith, WritesInside, WritesNoApart, new_map}
use Rattle.install_run.specs.Installs.{HoldsSettled, IsInstalled, Installs, StaysUnstaged, InstallsBegun, LaysAsPlanned, Leaves, NoVolume, Passes, VolumeLost, meant_by}
use Rattle.install_run.specs.Staged.{EndsCommitted, EndsInCommit, IsFlushed, IsStaged, IsUnflushed, SparesClear}
use Rattle.install_run.proofs.AnswerLemmas.{passes_begun, passes_settled}
use Rattle.install_run.specs.Steps.{Finishes, FinishedEarly, FinishedWhole, GainsUnlessLost, HaltedCommit, HaltedStaging, HaltedTidying, IsHalted, IsPrepared, IsReadyToStage, StaysBegun}
use Rattle.install_run.proofs.CarriedLemmas.{tidies_some}
use Rattle.install_run.proofs.OutsideLemmas.{apart_join, finished_inside, was_apart}
use Rattle.install_run.proofs.SpareLemmas.{spares_since}

-- ---- a value that there is

pub some_is : {A : Type 0} → (option : Option A) → is_some option ≡ true → (value : A) × (option ≡ Some value)
some_is None is = cc
some_is (Some value) is = (value, refl)

pub not_refused : {A F : Type 0} (r : Result A F) (a : A) → r ≡ Ok a → IsErr r → ⊥
not_refused {A} {F} r a is refused = false≢true (subst (λ (x : Result A F). IsErr x) is refused)

-- ---- a refusal before anything was planned

-- a status is none that comes once the commit began
abbrev is_early : ℕ → Bool
is_early status = not (list_any (λ later. later == status) (0 ∷ 9 ∷ 10 ∷ []))

before_by : (status : ℕ) → is_early status ≡ true → IsBefore status
before_by status early = record { not_done = none; not_committing = λ nine. false≢true (rw nine at early) }
  where
    none : IsDone status → ⊥
    none (inl zero) = false≢true (rw zero at early)
    none (inr ten) = false≢true (rw ten at early)

pub refusal_before : (fault : InstallFault) (status : ℕ) → status ≡ fault_status fault Before → IsBefore status
refusal_before fault status is =
    subst IsBefore (sym is)
    (of_status (λ f given. IsBefore given) Before (λ f. before_by 3 refl) (λ f. before_by 4 refl) (λ f. before_by 5 refl) (λ f. before_by 13 refl)
    (before_by 8 refl) (before_by 8 refl) fault)

module _ (fault : InstallFault) (refusal : IsRefusal fault) (status : ℕ) (old new : SinkState) (is : status ≡ fault_status fault Before)
    (shown : Shows old (codes "lilo: " ++ fault_text fault Before) new) (stays : IsStopped fault → ⊥) where
  refused-by : (given : Result Answer InstallRefusal) → Refuses fault given → AnswersVerdict (verdict_by answer_text given) status old new
  refused-by (Ok answer) refuses = absurd (stays refuses)
  refused-by (Err why) refuses = record {
    status_is = is ∙ status_law fault Before why refuses refusal;
    shown = subst (λ text. Shows old text new) (text_law fault Before why refuses refusal) shown;
  }

  refused-for : (image : Image) (machine : Machine) (settled : Image) (begun : Begun) (time : ℕ)
      → IsStopped fault ⊎ (IsSettledFrom image machine begun settled × Refuses fault (settled_answer image machine settled begun time))
      → AnswersInstall image machine settled begun time status old new
  refused-for image machine settled begun time (inl stopped) = absurd (stays stopped)
  refused-for image machine settled begun time (inr both) = Answered both.0 (refused-by (settled_answer image machine settled begun time) both.1)

pub refused_answers : (image : Image) (machine : Machine) (settled : Image) (begun : Begun) (time : ℕ) (fault : InstallFault) (before after : ℕ) → HasInstallCause before after fault
    → (status : ℕ) (old new : SinkState) → status ≡ fault_status fault Before → Shows old (codes "lilo: " ++ fault_text fault Before) new
    → IsStopped fault ⊎ (IsSettledFrom image machine begun settled × Refuses fault (settled_answer image machine settled begun time))
    → AnswersInstall image machine settled begun time status old new
refused_answers image machine settled begun time (faults.Survey fault) before after cause status old new is shown refuses = refused-for (faults.Survey fault) tt status old new is shown (λ s. s) image machine settled begun time refuses
refused_answers image machine settled begun time (faults.NotApart opt) before after cause status old new is shown refuses = refused-for (faults.NotApart opt) tt status old new is shown (λ s. s) image machine settled begun time refuses
refused_answers image machine settled begun time (faults.Path path fault) before after cause status old new is shown refuses = refused-for (faults.Path path fault) cause status old new is shown (λ s. s) image machine settled begun time refuses
refused_answers image machine settled begun time (faults.Plan fault) before after cause status old new is shown refuses = refused-for (faults.Plan fault) tt status old new is shown (λ s. s) image machine settled begun time refuses
refused_answers image machine settled begun time (faults.Write fault) before after cause status old new is shown refuses = refused-for (faults.Write fault) cause status old new is shown (λ s. s) image machine settled begun time refuses
refused_answers image machine settled begun time faults.Device before after cause status old new is shown refuses = LostEarly is shown
refused_answers image machine settled begun time faults.Memory before after cause status old new is shown refuses = Starved is shown

-- a refusal leaves what boots as before
pub refused_leaves : (machine : Machine) (begun : Begun) (settled : Image) (time : ℕ) (places : List DiskSector) (entry ended : Option Past) (status : ℕ) → IsBefore status
    → StaysAsBefore machine begun.volume begun.span entry ended
    → ((names : settles.OwnNames) → AreOwn (now entry) begun names
    → KeepsMost machine begun names entry ended ⊎ KeepsWith machine begun names (new_map machine begun settled time places) entry ended)
    → ((names : settles.OwnNames) → AreOwn (now entry) begun names → status ≢ 8 → KeepsMost machine begun names entry ended)
    → SparesClear machine begun entry ended → ((names : settles.OwnNames) → AreOwn (now entry) begun names → KeepsOldMap machine begun names entry ended)
    → (status ≢ 8 → HoldsSettled settled ended) → (status ≢ 8 → GainsNothing begun.volume (now entry) settled)
    → StaysUnstaged machine begun entry ended ⊎ (IsSettledFrom (now entry) machine begun settled × Passes (now entry) machine settled begun time)
    → Leaves machine begun settled time entry ended status
refused_leaves machine begun settled time places entry ended status early stays keeps unstaged spares map holds gains stages = record {
  keeps = λ names own. record {
    places = places;
    before = λ is. keeps names own;
    unstaged = λ is. unstaged names own;
    map = λ is. map names own;
    later = λ at. absurd (none at);
    backup = λ done. absurd (early.not_done done);
    installed = λ zero. absurd (early.not_done (inl zero));
  };
  settles = λ at. absurd (none at);
  passes = λ at. absurd (none at);
  gains = gains;
  before = λ is. stays;
  at_commit = λ nine. absurd (early.not_committing nine);
  done = λ done. absurd (early.not_done done);
  lays = λ done. absurd (early.not_done done);
  quiet = λ zero. absurd (early.not_done (inl zero));
  spares = λ is. spares;
  in_commit = λ nine. absurd (early.not_committing nine);
  committed = λ done. absurd (early.not_done done);
  holds = λ is. holds;
  stages = λ is. stages;
}
  where
    none : (status ≡ 9) ⊎ IsDone status → ⊥
    none (inl nine) = early.not_committing nine
    none (inr done) = early.not_done done

-- the old map isn't spoken of once it is done
not-map : (status : ℕ) → IsDone status → IsBefore status ⊎ (status ≡ 9) → ⊥
not-map status done (inl early) = early.not_done done
not-map status (inl zero) (inr nine) = omega (arith, zero, nine)
not-map status (inr ten) (inr nine) = omega (arith, ten, nine)

-- ---- what is planned and carried out

-- what is answered of it, once it was reported
pub finished_answers : {D : Type 0} {disks : Ghosts D} → (image : Image) (machine : Machine) (settled : Image) (begun : Begun) (time : ℕ) (planned : Planned D disks) (answer : Answer)
    (status : ℕ) (ended : D) (old mid new : SinkState) → IsSettledFrom image machine begun settled → settled_answer image machine settled begun time ≡ Ok answer
    → IsTold (past_of planned.volume) → Shows old (answer_text answer) mid → Finishes planned status ended mid new → AnswersInstall image machine settled begun time status old new
finished_answers image machine settled begun time planned answer status ended old mid new tie is told shown (FinishedWhole tidied carried same zero rest) =
    Answered tie
    (rw is
    (record {
      status_is = zero;
      shown = subst (λ text. Shows old text new) (append-nil (answer_text answer)) (shows_join old mid new (answer_text answer) [] shown rest);
    }))
finished_answers image machine settled begun time planned answer status ended old mid new tie is told shown (FinishedEarly halt halted same device status-is said) =
    let lost = device told in
    LostLater tie (record {
      answer = answer;
      is = is;
      phase = halt.phase;
      status_is = status-is ∙ ap (λ fault. fault_status fault halt.phase) lost;
      shown = shows_join old mid new (answer_text answer) (codes "lilo: " ++ device_line halt.phase) shown
          (subst (λ fault. Shows mid (codes "lilo: " ++ fault_text fault halt.phase) new) lost said);
    })

-- a disk that failed as the files were staged, and no other refusal, ends it before the commit
not_early : {D : Type 0} {disks : Ghosts D} → (status : ℕ) (planned : Planned D disks) (ended : D) (old new : SinkState) → Finishes planned status ended old new
    → IsTold (past_of planned.volume) → IsBefore status → status ≢ 8 → ⊥
not_early status planned ended old new (FinishedWhole tidied carried same zero rest) told early other = early.not_done (inl zero)
not_early status planned ended old new (FinishedEarly halt halted same device status-is said) told early other =
    by halt.phase (status-is ∙ ap (λ fault. fault_status fault halt.phase) (device told))
  where
    by : (phase : Phase) → status ≡ device_status phase → ⊥
    by Before is = other is
    by Commit is = early.not_committing is
    by After is = early.not_done (inr is)

-- what is left of it
module _ {D : Type 0} {disks : Ghosts D} (entry : Volume D disks) (config : configs.Config) (boot : spans.Span) (time : ℕ) (planned : Planned D disks)
    (prepared : IsPrepared entry config boot time planned) (ready : IsReadyToStage planned) (told : IsTold (past_of entry)) (quiet : IsQuiet (past_of entry)) (whole : IsWhole (sizes_of entry) (past_of entry)) where
  abbrev S : Surveyed D disks
  S = prepared.surveyed

  is : IsBegunWith entry config boot time S
  is = prepared.begun told quiet

  abbrev From : Begun
  From = begun_from entry S

  abbrev Settled-image : Image
  Settled-image = now (past_of planned.volume)

  same-settled : Settled-image ≡ now (past_of S.volume)
  same-settled = ap now prepared.has.same.same_disks.same_past

  told-planned : IsTold (past_of planned.volume)
  told-planned = subst IsTold (sym prepared.has.same.same_disks.same_past) ((leaves entry config boot time S is).goes_on.told told)

  meant-same : meant_from entry S ≡ meant_by (machine_on entry) From Settled-image
  meant-same = ap (λ (image : Image). meant (config_view S.config) (names_in (volume_view entry) image) (devices_in image (machine_on entry))) (sym same-settled)

  plan-same : planned_on entry S ≡ plans.planned Settled-image (machine_on entry) From.volume From.config time
  plan-same =
      ap (λ (image : Image). plans.planned image (machine_on entry) From.volume From.config S.time) (sym same-settled)
      ∙ ap (λ (t : ℕ). plans.planned Settled-image (machine_on entry) From.volume From.config t) is.held.time_is

  -- the plan that was made is the model's, of the settled image
  plan-is : plan_view planned.plan ≡ plans.planned Settled-image (machine_on entry) From.volume From.config time
  plan-is =
      let did = beginnings.begun entry config boot time S is in
      let may = may-stage entry config boot time S is planned prepared.has did.names (mapped_sectors (now (past_of entry)) (machine_on entry) From.span) did.are
      (examined entry config boot time S is).old.zones in
      may.plan_is
      ∙ (ap (λ (v : parts.Volume). plans.planned (now (past_of S.volume)) (machine_on entry) v (config_view planned.plan.config) planned.time)
      (plan-view-same entry config boot time S is planned prepared.has)
      ∙ (ap (λ (c : configs.Config). plans.planned (now (past_of S.volume)) (machine_on entry) From.volume (config_view c) planned.time) prepared.has.held.config_is
      ∙ (ap (λ (t : ℕ). plans.planned (now (past_of S.volume)) (machine_on entry) From.volume From.config t) prepared.has.held.time_is ∙ plan-same)))

  abbrev Map : List ℕ
  Map = new_map (machine_on entry) From Settled-image time (places_view planned.room)

  map-is : map_of entry planned ≡ Map
  map-is = ap (λ (plan : Plan). concat (plan_sectors plan (machine_on entry) (places_view planned.room))) plan-is

  module _ (there : LiesThere (now (past_of entry)) (machine_on entry) From) where
    lies : LiesOnDisks entry S
    lies = record { whole = whole; there = there }

    -- ---- until the commit

    before-is : orders.Leaves entry S.volume From
    before-is = leaves entry config boot time S is

    begin-spares : SparesClear (machine_on entry) From (past_of entry) (past_of S.volume)
    begin-spares clear = leaves_weaker (past_of entry) (past_of S.volume) _ _ (before-is.any_moment quiet) (λ c b. b.spared there clear)

    begin-map : (names : settles.OwnNames) → AreOwn (now (past_of entry)) From names → KeepsOldMap (machine_on entry) From names (past_of entry) (past_of S.volume)
    begin-map names own =
        leaves_weaker (past_of entry) (past_of S.volume) _ _ (beginning_keeps_law disks entry S.volume S.config S.device S.boot names quiet there own before-is)
        (λ c kept. kept.own names.map)

    prepares : (new : Volume D disks) (result : Result (Unit {0}) WriteFault) → StagesFrom planned.volume new (is_forced planned) planned.present planned.plan planned.room result
        → Prepares (machine_on entry) From.volume From.span (past_of entry) (past_of S.volume) (past_of new)
    prepares new result from = staging_prepares_law disks entry new config boot time S planned result is prepared.has there from

    staging-spares : (new : Volume D disks) (result : Result (Unit {0}) WriteFault) → StagesFrom planned.volume new (is_forced planned) planned.present planned.plan planned.room result
        → SparesClear (machine_on entry) From (past_of entry) (past_of new)
    staging-spares new result from = spares_since (machine_on entry) From.volume From.span (past_of entry) (past_of S.volume) (past_of new) (prepares new result from)

    staging-map : (new : Volume D disks) (result : Result (Unit {0}) WriteFault) → StagesFrom planned.volume new (is_forced planned) planned.present planned.plan planned.room result
        → (names : settles.OwnNames) → AreOwn (now (past_of entry)) From names → KeepsOldMap (machine_on entry) From names (past_of entry) (past_of new)
    staging-map new result from names own = staging_map_law disks entry new config boot time S planned names result is prepared.has there own from

    -- where the flush before it failed nothing was done
    still : (halt : Halt D disks) → (fault : WriteFault) → Syncs planned.volume halt.volume zones.Device (Err zones.Device) → past_of halt.volume ≡ past_of S.volume
    still halt fault syncs = syncs.flushes.failed ∙ prepared.has.same.same_disks.same_past

    halted-spares : (halt : Halt D disks) → HaltsStaging planned halt → SparesClear (machine_on entry) From (past_of entry) (past_of halt.volume)
    halted-spares halt halts = by halts.stops
      where
        by : StopsStaging planned.volume (is_forced planned) planned.present planned.plan planned.room (record { volume = halt.volume; fault = halts.fault })
            → SparesClear (machine_on entry) From (past_of entry) (past_of halt.volume)
        by (inl stopped) = subst (λ (p : Option Past). SparesClear (machine_on entry) From (past_of entry) p) (sym (still halt halts.fault stopped.0)) begin-spares
        by (inr from) = staging-spares halt.volume (Err halts.fault) from

    halted-map : (halt : Halt D disks) → HaltsStaging planned halt → (names : settles.OwnNames) → AreOwn (now (past_of entry)) From names
        → KeepsOldMap (machine_on entry) From names (past_of entry) (past_of halt.volume)
    halted-map halt halts names own = by halts.stops
      where
        by : StopsStaging planned.volume (is_forced planned) planned.present planned.plan planned.room (record { volume = halt.volume; fault = halts.fault })
            → KeepsOldMap (machine_on entry) From names (past_of entry) (past_of halt.volume)
        by (inl stopped) = subst (λ (p : Option Past). KeepsOldMap (machine_on entry) From names (past_of entry) p) (sym (still halt halts.fault stopped.0)) (begin-map names own)
        by (inr from) = staging-map halt.volume (Err halts.fault) from names own

    abbrev Kept : settles.OwnNames → Option Past → Type 0
    Kept names ended = KeepsWith (machine_on entry) From names Map (past_of entry) ended

    kept-by : (names : settles.OwnNames) (ended : Option Past)
        → LeavesOnly (past_of entry) ended (Keeps (now (past_of entry)) (machine_on entry) From names (map_of entry planned)) → Kept names ended
    kept-by names ended = subst (λ (bytes : List ℕ). KeepsWith (machine_on entry) From names bytes (past_of entry) ended) map-is

    module _ (staged : Staged D disks) (stages : HasStaged planned staged) where
      -- ---- all is staged

      staged-boot : staged.boot ≡ S.boot
      staged-boot = stages.stages.boot_is ∙ prepared.has.held.boot_is

      staged-view : volume_view staged.volume ≡ From.volume
      staged-view =
          let from = stages.stages.stages in
          let one : volume_view staged.volume ≡ volume_view planned.volume = rw (from.kept.same_span, from.kept.same_layout) refl in
          one ∙ plan-view-same entry config boot time S is planned prepared.has

      staged-outside : WritesNoApart From.volume (past_of entry) (past_of staged.volume)
      staged-outside =
          apart_join From.volume (past_of entry) (past_of planned.volume) (past_of staged.volume)
          (subst (λ (p : Option Past). WritesNoApart From.volume (past_of entry) p) (sym prepared.has.same.same_disks.same_past) (before-is.outside told))
          (subst (λ (v : parts.Volume). WritesNoApart v (past_of planned.volume) (past_of staged.volume)) (plan-view-same entry config boot time S is planned prepared.has)
          (was_apart planned ready told-planned staged stages))

      pub staged_is : IsStaged (machine_on entry) From Settled-image (past_of entry) (past_of staged.volume) staged.sector
      staged_is =
          let from = stages.stages.stages in
          let first = installation_means_law disks entry config boot time S planned staged is prepared.has lies stages.stages in
          record {
            stays = prepares_law (machine_on entry) From.volume From.span (past_of entry) (past_of S.volume) (past_of staged.volume) (prepares staged.volume (Ok tt) from);
            spares = staging-spares staged.volume (Ok tt) from;
            map = λ names own. staging-map staged.volume (Ok tt) from names own;
            outside = staged-outside;
            quiet = stages.quiet;
            place = first.place;
            means = subst (λ m. Means (machine_on entry) From.span first.place m (with_sector (now (past_of staged.volume)) From.span.disk From.span.start staged.sector)) meant-same first.is;
          }

      -- what comes then
      module _ (new : Volume D disks) (fault : DiskFault) (commits : Commits staged.volume new staged.boot staged.sector (Err fault)) where
        pub unflushed : IsUnflushed From.span (past_of staged.volume) (past_of new) staged.sector
        unflushed =
            subst (λ (b : spans.Span). IsUnflushed (volumes.span_view b) (past_of staged.volume) (past_of new) staged.sector) staged-boot
            (record { either = commits.any_moment stages.quiet; others = commits.others; unflushed = commits.unflushed })

      module _ (new : Volume D disks) (commits : Commits staged.volume new staged.boot staged.sector (Ok tt)) where
        pub flushed : IsFlushed From.span (past_of staged.volume) (past_of new) staged.sector
        flushed =
            subst (λ (b : spans.Span). IsFlushed (volumes.span_view b) (past_of staged.volume) (past_of new) staged.sector) staged-boot
            (record {
              either = commits.any_moment stages.quiet;
              others = commits.others;
              written = commits.written (stages.stages.stages.goes_on.told told-planned);
              quiet = commits.quiet;
            })

      ends-committed : (new : Volume D disks) (committed : Committed D disks) (result : Result (Unit {0}) WriteFault) → IsCommitted staged committed → MayBeTidied committed
          → TidiesFrom committed new result → EndsCommitted (machine_on entry) From Settled-image (past_of entry) (past_of new)
      ends-committed new committed result commits may tidies =
          let commit = commits.commits in
          let view : volume_view committed.volume ≡ volume_view staged.volume = rw (commit.kept.same_span, commit.kept.same_layout) refl in
          record {
            staged = past_of staged.volume;
            bytes = staged.sector;
            is = staged_is;
            committed = past_of committed.volume;
            commits = flushed committed.volume commit;
            tidies = subst (λ (v : parts.Volume). WritesNoApart v (past_of committed.volume) (past_of new)) (view ∙ staged-view)
                ((tidies_some committed may new result tidies).1.apart (commit.goes_on.told (stages.stages.stages.goes_on.told told-planned)));
          }

      commit-keeps-map : (new : Volume D disks) (result : Result (Unit {0}) DiskFault) → Commits staged.volume new staged.boot staged.sector result
          → (names : settles.OwnNames) → AreOwn (now (past_of entry)) From names → KeepsOldMap (machine_on entry) From names (past_of entry) (past_of new)
      commit-keeps-map new result commits names own =
          commit_map_law disks entry new config boot time S planned staged names result is prepared.has lies own stages commits

      -- ---- what is left of it

      committing : (halt : Halt D disks) → HaltsCommit staged halt
          → (place : DiskSector) × BootsAsEither (machine_on entry) From.volume From.span place (meant_by (machine_on entry) From Settled-image) (past_of entry) (past_of halt.volume)
      committing halt halts =
          let first = installation_commit_ends_law disks entry config boot time S planned staged halt is prepared.has lies stages halts in (
            first.place,
            subst (λ m. BootsAsEither (machine_on entry) From.volume From.span first.place m (past_of entry) (past_of halt.volume)) meant-same first.is,
          )

      installing : (new : Volume D disks) (committed : Committed D disks) (result : Result (Unit {0}) WriteFault) → IsCommitted staged committed
          → (path : List (List ℕ)) × Tidies committed.volume new path committed.map.tilde.directory result
          → (place : DiskSector) × IsInstalled (machine_on entry) From place Settled-image (past_of entry) (past_of new)
      installing new committed result commits tidies =
          let first = installation_law disks entry new config boot time S planned staged committed tidies.0 committed.map.tilde.directory result is prepared.has lies stages commits tidies.1 in
          let boots : BootsAsEither (machine_on entry) From.volume From.span first.place (meant_from entry S) (past_of entry) (past_of new) =
          record { any_moment = first.is.any_moment; boot_or_meant = first.is.boot_or_meant } in (
            first.place,
            record {
              either = subst (λ m. BootsAsEither (machine_on entry) From.volume From.span first.place m (past_of entry) (past_of new)) meant-same boots;
              after = λ c left. subst (λ m. Means (machine_on entry) From.span first.place m c) meant-same (first.is.after c left);
            },
          )

      committing-keeps : (halt : Halt D disks) → HaltsCommit staged halt → (names : settles.OwnNames) → AreOwn (now (past_of entry)) From names → Kept names (past_of halt.volume)
      committing-keeps halt halts names own =
          kept-by names (past_of halt.volume)
          (commit_keeps_law disks entry config boot time S planned staged halt names is prepared.has lies own stages halts)

      module _ (new : Volume D disks) (committed : Committed D disks) (result : Result (Unit {0}) WriteFault) (commits : IsCommitted staged committed) (tidies : TidiesFrom committed new result)
          (names : settles.OwnNames) (own : AreOwn (now (past_of entry)) From names) where
        installing-keeps : Kept names (past_of new)
        installing-keeps =
            kept-by names (past_of new)
            (installation_keeps_law disks entry new config boot time S planned staged committed names result is prepared.has lies own stages commits tidies)

        installing-backup : (c : Image) → MayLeave (past_of new) c → HasBackup (now (past_of entry)) From names c
        installing-backup c left =
            end_of_run_law (HasBackup (now (past_of entry)) From names) (past_of committed.volume) (past_of new)
            (committed_backup_law disks entry new config boot time S planned staged committed names result is prepared.has lies own stages commits tidies) c left

        installing-lays : (c : Image) → MayLeave (past_of new) c → LaysAsPlanned (machine_on entry) From Settled-image time names (past_of entry) c
        installing-lays c left =
            subst (λ (plan : Plan). Lays c (machine_on entry) From.volume From.span plan names.map (now (past_of entry) From.span.disk From.span.start)) plan-same
            (end_of_run_law (λ c. Lays c (machine_on entry) From.volume From.span (planned_on entry S) names.map (now (past_of entry) From.span.disk From.span.start))
            (past_of committed.volume) (past_of new)
            (committed_lays_law disks entry new config boot time S planned staged committed names result is prepared.has lies own stages commits tidies) c left)

      has-installed : (new : Volume D disks) (committed : Committed D disks) → IsCommitted staged committed → TidiesFrom committed new (Ok tt) → IsQuiet (past_of new)
          → (names : settles.OwnNames) → AreOwn (now (past_of entry)) From names → HasInstalled From Settled-image names Map (past_of entry) (past_of new)
      has-installed new committed commits tidies still names own =
          subst₂ (λ (settled : Image) (bytes : List ℕ). HasInstalled From settled names bytes (past_of entry) (past_of new)) (sym same-settled) map-is
          (installed_law disks entry new config boot time S planned staged committed names is prepared.has lies own stages commits tidies still)

    module _ (tie : IsSettledFrom (now (past_of entry)) (machine_on entry) From Settled-image)
        (passed : Passes (now (past_of entry)) (machine_on entry) Settled-image From time) where
      settled-gains : GainsNothing From.volume (now (past_of entry)) Settled-image
      settled-gains = (passes_settled (now (past_of entry)) (machine_on entry) Settled-image From time passed.0 passed.1 tie).1.gains

      halted-leaves : (status : ℕ) (halt : Halt D disks) → IsHalted planned halt → status ≡ fault_status halt.fault halt.phase → halt.fault ≡ faults.Device
          → Leaves (machine_on entry) From Settled-image time (past_of entry) (past_of halt.volume) status
      halted-leaves status halt (HaltedStaging phase halts) status-is lost =
          let eight : status ≡ 8 = status-is ∙ (ap (λ fault. fault_status fault halt.phase) lost ∙ ap device_status phase) in
          refused_leaves (machine_on entry) From Settled-image time (places_view planned.room) (past_of entry) (past_of halt.volume) status
          (subst IsBefore (sym eight) (before_by 8 refl))
          (staging_stops_law disks entry config boot time S planned halt is prepared.has there halts)
          (λ names own. inr (kept-by names (past_of halt.volume) (staging_keeps_law disks entry config boot time S planned halt names is prepared.has there own halts)))
          (λ names own other. absurd (other eight)) (halted-spares halt halts) (λ names own. halted-map halt halts names own) (λ other. absurd (other eight)) (λ other. settled-gains) (inr (tie, passed))
      halted-leaves status halt (HaltedCommit phase staged stages halts) status-is lost =
          let nine : status ≡ 9 = status-is ∙ (ap (λ fault. fault_status fault halt.phase) lost ∙ ap device_status phase) in
          record {
            keeps = λ names own. record {
              places = places_view planned.room;
              before = λ early. absurd (early.not_committing nine);
              unstaged = λ early. absurd (early.not_committing nine);
              map = λ is. commit-keeps-map staged stages halt.volume (Err Failed) halts.commits names own;
              later = λ at. committing-keeps staged stages halt halts names own;
              backup = λ done. absurd (none nine done);
              installed = λ zero. absurd (none nine (inl zero));
            };
            settles = λ at. tie;
            passes = λ at. passed;
            gains = λ other. settled-gains;
            before = λ early. absurd (early.not_committing nine);
            at_commit = λ at. committing staged stages halt halts;
            done = λ done. absurd (none nine done);
            lays = λ done. absurd (none nine done);
            quiet = λ zero. absurd (none nine (inl zero));
            spares = λ early. absurd (early.not_committing nine);
            in_commit = λ at. record { staged = past_of staged.volume; bytes = staged.sector; is = staged_is staged stages; commits = unflushed staged stages halt.volume Failed halts.commits };
            committed = λ done. absurd (none nine done);
            holds = λ early. absurd (early.not_committing nine);
            stages = λ early. absurd (early.not_committing nine);
          }
        where
          none : status ≡ 9 → IsDone status → ⊥
          none nine (inl zero) = omega (arith, nine, zero)
          none nine (inr ten) = omega (arith, nine, ten)
      halted-leaves status halt (HaltedTidying phase staged stages committed commits may halts) status-is lost =
          let ten : status ≡ 10 = status-is ∙ (ap (λ fault. fault_status fault halt.phase) lost ∙ ap device_status phase) in
          record {
            keeps = λ names own. record {
              places = places_view planned.room;
              before = λ early. absurd (early.not_done (inr ten));
              unstaged = λ early. absurd (early.not_done (inr ten));
              map = λ is. absurd (not-map status (inr ten) is);
              later = λ at. installing-keeps staged stages halt.volume committed (Err halts.fault) commits halts.tidies names own;
              backup = λ done. installing-backup staged stages halt.volume committed (Err halts.fault) commits halts.tidies names own;
              installed = λ zero. absurd (omega (arith, ten, zero));
            };
            settles = λ at. tie;
            passes = λ at. passed;
            gains = λ other. settled-gains;
            before = λ early. absurd (early.not_done (inr ten));
            at_commit = λ nine. absurd (omega (arith, ten, nine));
            done = λ done. installing staged stages halt.volume committed (Err halts.fault) commits (tidies_some committed may halt.volume (Err halts.fault) halts.tidies);
            lays = λ done names own. installing-lays staged stages halt.volume committed (Err halts.fault) commits halts.tidies names own;
            quiet = λ zero. absurd (omega (arith, ten, zero));
            spares = λ early. absurd (early.not_done (inr ten));
            in_commit = λ nine. absurd (omega (arith, ten, nine));
            committed = λ done. ends-committed staged stages halt.volume committed (Err halts.fault) commits may halts.tidies;
            holds = λ early. absurd (early.not_done (inr ten));
            stages = λ early. absurd (early.not_done (inr ten));
          }

      finished-leaves : (status : ℕ) (ended : D) (old new : SinkState) → Finishes planned status ended old new
          → Leaves (machine_on entry) From Settled-image time (past_of entry) (disks.past ended) status
      finished-leaves status ended old new (FinishedWhole tidied carried same zero rest) =
          subst (λ (d : D). Leaves (machine_on entry) From Settled-image time (past_of entry) (disks.past d) status) same
          (record {
            keeps = λ names own. record {
              places = places_view planned.room;
              before = λ early. absurd (early.not_done (inl zero));
              unstaged = λ early. absurd (early.not_done (inl zero));
              map = λ is. absurd (not-map status (inl zero) is);
              later = λ at. installing-keeps carried.staged carried.stages tidied.volume carried.committed (Ok tt) carried.commits carried.tidies names own;
              backup = λ done. installing-backup carried.staged carried.stages tidied.volume carried.committed (Ok tt) carried.commits carried.tidies names own;
              installed = λ at. has-installed carried.staged carried.stages tidied.volume carried.committed carried.commits carried.tidies carried.quiet names own;
            };
            settles = λ at. tie;
            passes = λ at. passed;
            gains = λ other. settled-gains;
            before = λ early. absurd (early.not_done (inl zero));
            at_commit = λ nine. absurd (omega (arith, zero, nine));
            done = λ done. installing carried.staged carried.stages tidied.volume carried.committed (Ok tt) carried.commits
                (tidies_some carried.committed carried.may tidied.volume (Ok tt) carried.tidies);
            lays = λ done names own. installing-lays carried.staged carried.stages tidied.volume carried.committed (Ok tt) carried.commits carried.tidies names own;
            quiet = λ done. carried.quiet;
            spares = λ early. absurd (early.not_done (inl zero));
            in_commit = λ nine. absurd (omega (arith, zero, nine));
            committed = λ done. ends-committed carried.staged carried.stages tidied.volume carried.committed (Ok tt) carried.commits carried.may carried.tidies;
            holds = λ early. absurd (early.not_done (inl zero));
            stages = λ early. absurd (early.not_done (inl zero));
          })
      finished-leaves status ended old new (FinishedEarly halt halted same device status-is said) =
          subst (λ (d : D). Leaves (machine_on entry) From Settled-image time (past_of entry) (disks.past d) status) same
          (halted-leaves status halt halted status-is (device told-planned))

  -- ---- by what was begun with

  module _ (device : devices.Device) (has : config.boot ≡ Some device) where
    pub same_begun : From ≡ begun_of entry config device boot
    same_begun =
        let both : Some S.device ≡ Some device = sym is.held.device_is ∙ has in
        let same : S.device ≡ device = cc in
        ap (λ (c : configs.Config). begun_of entry c S.device S.boot) is.held.config_is
        ∙ (ap (λ (d : devices.Device). begun_of entry config d S.boot) same
        ∙ ap (λ (b : spans.Span). begun_of entry config device b) is.held.boot_is)

    pub finished_leaves : IsSettledFrom (now (past_of entry)) (machine_on entry) (begun_of entry config device boot) Settled-image
        → Passes (now (past_of entry)) (machine_on entry) Settled-image (begun_of entry config device boot) time
        → LiesThere (now (past_of entry)) (machine_on entry) (begun_of entry config device boot) → (status : ℕ) (ended : D) (old new : SinkState)
        → Finishes planned status ended old new → Leaves (machine_on entry) (begun_of entry config device boot) Settled-image time (past_of entry) (disks.past ended) status
    finished_leaves tie passed there status ended old new finishes =
        subst (λ (b : Begun). Leaves (machine_on entry) b Settled-image time (past_of entry) (disks.past ended) status) same_begun
        (finished-leaves (subst (LiesThere (now (past_of entry)) (machine_on entry)) (sym same_begun) there)
        (subst (λ (b : Begun). IsSettledFrom (now (past_of entry)) (machine_on entry) b Settled-image) (sym same_begun) tie)
        (subst (λ (b : Begun). Passes (now (past_of entry)) (machine_on entry) Settled-image b time) (sym same_begun) passed) status ended old new finishes)

-- ---- the whole, for the boot device that there is

pub for_device : {A : Type 0} → (option : Option A) (value : A) (P : A → Type 0) → option ≡ Some value → P value → IfSome option P
for_device option value P is holds = subst (λ o. IfSome o P) (sym is) holds

module _ {D : Type 0} {disks : Ghosts D} (entry : Volume D disks) (config : configs.Config) (boot : spans.Span) (time : ℕ) (named : is_some config.boot ≡ true)
    (status : ℕ) (ended : D) (old new : SinkState) where
  abbrev Whole : devices.Device → Type 0
  Whole device = OnDisks disks entry.disks.now (λ image machine. Installs image machine (begun_of entry config device boot) time (past_of entry) (disks.past ended) status old new)

  -- where nothing is left to settle, nothing was written before the plan was carried out
  abbrev pub WroteNothing : Option Past → Type 0
  WroteNothing left = IfSome config.boot (λ device. OnDisks disks entry.disks.now (λ image machine. HasNothingLeft image (begun_of entry config device boot) → left ≡ past_of entry))

  wrote-nothing : (left : Option Past) (device : devices.Device) → config.boot ≡ Some device → WroteNothing left → IsTold (past_of entry)
      → HasNothingLeft (now (past_of entry)) (begun_of entry config device boot) → left ≡ past_of entry
  wrote-nothing left device is stays told =
      told_now (past_of entry) (λ image. HasNothingLeft image (begun_of entry config device boot) → left ≡ past_of entry)
      (of_some config.boot device (λ d. OnDisks disks entry.disks.now (λ image machine. HasNothingLeft image (begun_of entry config d boot) → left ≡ past_of entry)) is stays) told

  pub planned_installs : (planned : Planned D disks) (clear : Option Bool) → IsPrepared entry config boot time planned → IsWhole (sizes_of entry) (past_of entry)
      → IfSome config.boot (λ device. OnDisks disks entry.disks.now (λ image machine. GivesInstall image machine (begun_of entry config device boot) time (Ok (planned, clear))))
      → WroteNothing (past_of planned.volume) → IfSome config.boot (λ device. StaysBegun entry (begun_of entry config device boot) planned.volume) → IsReadyToStage planned
      → GoesOn disks entry.disks.now planned.volume.disks.now → (mid : SinkState) → Shows old (answer_text (answer_to planned clear)) mid
      → Finishes planned status ended mid new → IfSome config.boot Whole
  planned_installs planned clear prepared whole gives unsettled stays ready goes_on mid shown finishes =
      let some = some_is config.boot named in
      let device = some.0 in
      let begun = begun_of entry config device boot in
      let machine = machine_of disks entry.disks.now in
      for_device config.boot device Whole some.1
      (told_from (past_of entry) (λ image. Installs image machine begun time (past_of entry) (disks.past ended) status old new)
      (λ told.
      let given = told_now (past_of entry) (λ image. GivesInstall image machine begun time (Ok (planned, clear)))
      (of_some config.boot device (λ d. OnDisks disks entry.disks.now (λ image m. GivesInstall image m (begun_of entry config d boot) time (Ok (planned, clear)))) some.1 gives) told in
      record {
        settled = now (past_of planned.volume);
        answers = finished_answers (now (past_of entry)) machine (now (past_of planned.volume)) begun time planned (answer_to planned clear) status ended old mid new given.0 given.1
            (goes_on.told told) shown finishes;
        refused = λ checks. absurd (passes_begun (now (past_of entry)) machine (now (past_of planned.volume)) begun time (answer_to planned clear) given.1 checks);
        unsettled =
            λ none.
            let same = ap now (wrote-nothing (past_of planned.volume) device some.1 unsettled told none) in
            record {
              same = same;
              refused = λ early other. absurd (not_early status planned ended mid new finishes (goes_on.told told) early other);
              unplanned = λ checks. absurd (not_refused (settled_answer (now (past_of entry)) machine (now (past_of planned.volume)) begun time) (answer_to planned clear) given.1 checks);
            };
        outside =
            finished_inside entry config boot time planned prepared ready (goes_on.told told)
            ((of_some config.boot device (λ d. StaysBegun entry (begun_of entry config d boot) planned.volume) some.1 stays).outside told) status ended mid new finishes;
        leaves = λ quiet there. finished_leaves entry config boot time planned prepared ready told quiet whole device some.1 given.0 (answer_to planned clear, given.1) there
            status ended mid new finishes;
      }))

  pub refused_installs : (halt : Halt D disks) → ended ≡ halt.volume.disks.now → HasInstallCause (faults_of entry) (faults_of halt.volume) halt.fault
      → IfSome config.boot (λ device. OnDisks disks entry.disks.now (λ image machine. GivesInstall image machine (begun_of entry config device boot) time (Err halt)))
      → IfSome config.boot (λ device. OnDisks disks entry.disks.now (λ image machine. StaysRefused image machine (begun_of entry config device boot) (past_of entry) (past_of halt.volume)))
      → WroteNothing (past_of halt.volume) → IfSome config.boot (λ device. StaysBegun entry (begun_of entry config device boot) halt.volume)
      → (IsQuiet (past_of entry) → halt.fault ≢ faults.Device → IsQuiet (past_of halt.volume))
      → GainsUnlessLost entry halt
      → status ≡ fault_status halt.fault Before → Shows old (codes "lilo: " ++ fault_text halt.fault Before) new → IfSome config.boot Whole
  refused_installs halt end cause gives unbegun unsettled stays still gains status-is shown =
      let same : disks.past ended ≡ past_of halt.volume = ap disks.past end in
      let some = some_is config.boot named in
      let device = some.0 in
      let begun = begun_of entry config device boot in
      let machine = machine_of disks entry.disks.now in
      let early = refusal_before halt.fault status status-is in
      let left = of_some config.boot device (λ d. StaysBegun entry (begun_of entry config d boot) halt.volume) some.1 stays in
      let unlost : status ≢ 8 → halt.fault ≢ faults.Device = λ other lost. other (status-is ∙ ap (λ fault. fault_status fault Before) lost) in
      for_device config.boot device Whole some.1
      (told_from (past_of entry) (λ image. Installs image machine begun time (past_of entry) (disks.past ended) status old new)
      (λ told.
      let given = told_now (past_of entry) (λ image. GivesInstall image machine begun time (Err halt))
      (of_some config.boot device (λ d. OnDisks disks entry.disks.now (λ image m. GivesInstall image m (begun_of entry config d boot) time (Err halt))) some.1 gives) told in
      record {
        settled = now (past_of halt.volume);
        answers = refused_answers (now (past_of entry)) machine (now (past_of halt.volume)) begun time halt.fault (faults_of entry) (faults_of halt.volume) cause status old new status-is shown given;
        refused = λ checks.
            same
            ∙ told_now (past_of entry) (λ image. StaysRefused image machine begun (past_of entry) (past_of halt.volume))
            (of_some config.boot device (λ d. OnDisks disks entry.disks.now (λ image m. StaysRefused image m (begun_of entry config d boot) (past_of entry) (past_of halt.volume))) some.1 unbegun) told
            checks;
        unsettled =
            λ none.
            let stays = wrote-nothing (past_of halt.volume) device some.1 unsettled told none in
            record {
              same = ap now stays;
              refused = λ early other. same ∙ stays;
              unplanned = λ checks. same ∙ stays;
            };
        outside = subst (λ (p : Option Past). WritesInside begun.volume begun.span (past_of entry) p status) (sym same) (record { before = λ is. left.outside told; others = λ d s apart other. left.outside told d s apart });
        leaves = λ quiet there.
            subst (λ (p : Option Past). Leaves machine begun (now (past_of halt.volume)) time (past_of entry) p status) (sym same)
            (refused_leaves machine begun (now (past_of halt.volume)) time [] (past_of entry) (past_of halt.volume) status early
            (left.boots quiet there) (λ names own. inl (left.keeps quiet there names own)) (λ names own other. left.keeps quiet there names own) (left.spares quiet there)
            (λ names own. leaves_weaker (past_of entry) (past_of halt.volume) _ _ (left.keeps quiet there names own) (λ c kept. kept.own names.map))
            (λ other. record { now_is = refl; quiet = still quiet (unlost other) }) (λ other. gains told (unlost other)) (inl (left.keeps quiet there)));
      }))

-- ---- where no volume lies

pub no_volume : (image : Image) (machine : Machine) (time : ℕ) (begun : begins.Begun) (fault : ZoneFault) (status : ℕ) (entry ended : Option Past) (old new : SinkState)
    → volumes.Refuses fault (volume_at image begun.volume) → AnswersVerdict (zone_verdict fault) status old new → ended ≡ entry
    → InstallsBegun image machine time begun entry ended status old new
no_volume image machine time begun zones.Device status entry ended old new refuses is same = VolumeLost is.status_is is.shown same
no_volume image machine time begun (zones.Layout fault) status entry ended old new refuses is same = NoVolume _ refuses is same
no_volume image machine time begun (zones.ZoneOutside zone) status entry ended old new refuses is same = NoVolume _ refuses is same

pub zone_known : (fault : ZoneFault) (status : ℕ) → status ≡ (zone_verdict fault).status → IsTrue (is_install_status status)
zone_known zones.Device status is = rw is refl
zone_known (zones.Layout fault) status is = rw is refl
zone_known (zones.ZoneOutside zone) status is = rw is refl

-- a disk failed there alone
pub zone_lost : (fault : ZoneFault) (status : ℕ) → status ≡ (zone_verdict fault).status → IsDiskFault status → fault ≡ zones.Device
zone_lost zones.Device status is lost = refl
zone_lost (zones.Layout fault) status is lost = absurd (none lost)
  where
    none : IsDiskFault status → ⊥
    none (inl eight) = omega (arith, is, eight)
    none (inr (inl nine)) = omega (arith, is, nine)
    none (inr (inr ten)) = omega (arith, is, ten)
zone_lost (zones.ZoneOutside zone) status is lost = absurd (none lost)
  where
    none : IsDiskFault status → ⊥
    none (inl eight) = omega (arith, is, eight)
    none (inr (inl nine)) = omega (arith, is, nine)
    none (inr (inr ten)) = omega (arith, is, ten)
