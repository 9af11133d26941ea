-- What is begun and planned, as values.
use Rattle.std.proofs.Common.{◌≡◌, ◌≤◌, ◌⊎◌, ℕ, Bool, true, not, List, Option, Some, None, Result, Ok, Err, refl, sym, ◌∙◌, ap, subst, subst₂, inl, inr, arith}
use Rattle.std.specs.Prelude.{IfSome, is_some}
use Rattle.disk_trait.specs.declared.disks.Disks.{Ghosts}
use Rattle.disk_trait.specs.declared.disks.Span as spans
use Rattle.disk_trait.specs.Calls.{GoesOn}
use Rattle.disk_trait.specs.Moments.{IsTold, now}
use Rattle.disk_trait.specs.Past.{Past, Told}
use Rattle.disk_trait.proofs.CallLemmas.{goes_on_join}
use Rattle.disk_trait.proofs.MomentLemmas.{leaves_weaker, told_now}
use Rattle.lilo_model.specs.Disks.{Image, Machine, DiskSector}
use Rattle.lilo_model.specs.Mapped.{mapped_sectors}
use Rattle.lilo_model.specs.MinixParts as model
use Rattle.lilo_model.specs.MinixParts.{parts_of}
use Rattle.lilo_model.specs.PlanRefusal.{plan_at}
use Rattle.lilo_model.specs.Settled as settles
use Rattle.lilo_conf.specs.View.{config_view}
use Rattle.lilo_conf.specs.declared.config.Config as configs
use Rattle.map_plan.specs.Skipped.{skipped_paths}
use Rattle.map_sectors.specs.Map.{plan_view}
use Rattle.mbr_table.specs.View.{device_view}
use Rattle.mbr_table.specs.declared.device.Device as devices
use Rattle.minix_zones.specs.View.{span_view}
use Rattle.minix_zones.specs.Volume.{volume_view, past_of, faults_of, KeepsVolume, SameVolume}
use Rattle.minix_zones.specs.declared.volume.Volume.{Volume}
use Rattle.minix_zones.proofs.SameLemmas.{same_view}
use Rattle.minix_zones.proofs.WriteLemmas.{goes_on_unchanged, keeps_join, keeps_same}
use Rattle.sector_address.specs.Machine.{machine_of, OnDisks}
use Rattle.install_stage_laws.specs.BeginLaws.{GainsNothing}
use Rattle.install_stage_laws.proofs.Apart.{apart_boot_law}
use Rattle.install_laws.specs.InstallVerdict.{Begun}
use Rattle.install_laws.specs.Stopped.{StaysAsBefore}
use Rattle.install_laws.specs.Writes.{IsApartSector}
use Rattle.install_order.specs.Answers.{IsFor, Leaves, Settled}
use Rattle.install_order.specs.Begins.{LiesThere}
use Rattle.install_order.specs.Checks.{GivesExamined, IsExamined, begin_checks}
use Rattle.install_order.specs.Faults.{HasInstallCause, IsStopped, Refuses}
use Rattle.install_order.specs.Plans.{AreSurveyed, IsPlanOf, IsPlanned, IsPlannedFor, Surveys, checks_of, plan_checks, wish_of}
use Rattle.install_order.specs.Stageable.{IsReady}
use Rattle.install_order.specs.View.{begun_of}
use Rattle.install_order.specs.declared.fault.InstallFault.{InstallFault}
use Rattle.install_order.specs.declared.fault.InstallFault.TheVariants as faults
use Rattle.install_order.specs.declared.halt.Halt.{Halt}
use Rattle.install_order.specs.declared.planned.Planned.{Planned}
use Rattle.install_order.specs.declared.surveyed.Surveyed.{Surveyed}
use Rattle.install_join_laws.specs.Steps.{machine_on}
use Rattle.install_join_laws.proofs.Kept.{beginning_keeps_law}
use Rattle.install_join_laws.proofs.Prepared.{beginning_stops_law}
use Rattle.install_run.specs.Previews.{answer_to}
use Rattle.install_run.proofs.PreviewStateLemmas.{told_from}
use Rattle.install_run.proofs.TrialLemmas.{of_some}
use Rattle.install_room.specs.Room.{room_for, places_view}
use Rattle.install_run.specs.Answers.{GivesInstall, IsSettledFrom, settled_answer}
use Rattle.install_run.specs.Keeps.{KeepsMost, WritesNoApart}
use Rattle.install_run.specs.Staged.{SparesClear}
use Rattle.install_run.specs.Steps.{IsReadyToStage, StaysBegun}
use Rattle.install_run.proofs.AnswerLemmas.{begin_refused, plan_refused, plan_passes, report_is}

-- ---- values

-- what follows from a value that there is
pub some_of : {A : Type 0} → (option : Option A) (P : A → Type 0) (Q : Type 0) → is_some option ≡ true → IfSome option P → ((value : A) → P value → Q) → Q
some_of None P Q is holds from = cc
some_of (Some value) P Q is holds from = from value holds

-- a cause is one since an earlier count, too
pub cause_from : (fault : InstallFault) (before mid after : ℕ) → before ≤ mid → HasInstallCause mid after fault → HasInstallCause before after fault
cause_from (faults.Survey fault) before mid after below cause = tt
cause_from (faults.NotApart opt) before mid after below cause = tt
cause_from (faults.Path path fault) before mid after below cause = cause
cause_from (faults.Plan fault) before mid after below cause = cause
cause_from (faults.Write fault) before mid after below cause = cause
cause_from faults.Device before mid after below cause = λ full. let risen = cause full in omega (arith, below, risen)
cause_from faults.Memory before mid after below cause = tt

-- checks that pass don't refuse
refuses-none : {B : Type 0} → (fault : InstallFault) (given : Result B Rattle.install_laws.specs.InstallVerdict.InstallRefusal) (value : B) → given ≡ Ok value → Refuses fault given → IsStopped fault
refuses-none fault given value is refuses = rw is at refuses

-- ---- a beginning that was refused

-- it is answered as the model refuses it, or a disk failed, or memory ended
pub refused_begin : (image : Image) (machine : Machine) (begun : Begun) (time : ℕ) (settled : Image) (fault : InstallFault)
    → Refuses fault (begin_checks image machine begun.volume begun.config begun.boot begun.span)
    → IsStopped fault ⊎ (IsSettledFrom image machine begun settled × Refuses fault (settled_answer image machine settled begun time))
refused_begin image machine begun time settled fault refuses = by (begin_checks image machine begun.volume begun.config begun.boot begun.span) refl
  where
    by : (given : Result settles.OwnNames Rattle.install_laws.specs.InstallVerdict.InstallRefusal) → begin_checks image machine begun.volume begun.config begun.boot begun.span ≡ given
        → IsStopped fault ⊎ (IsSettledFrom image machine begun settled × Refuses fault (settled_answer image machine settled begun time))
    by (Ok names) is = inl (refuses-none fault (begin_checks image machine begun.volume begun.config begun.boot begun.span) names is refuses)
    by (Err why) is = inr ((λ names passes. absurd (let both : ◌≡◌ {A = Result settles.OwnNames Rattle.install_laws.specs.InstallVerdict.InstallRefusal} (Err why) (Ok names) = sym is ∙ passes in cc)), begin_refused image machine settled begun time fault refuses)

-- what is left of it boots as before
pub begin_stays : {D : Type 0} {disks : Ghosts D} → (entry ended : Volume D disks) (config : configs.Config) (device : devices.Device) (boot : spans.Span)
    → Leaves entry ended (begun_of entry config device boot) → StaysBegun entry (begun_of entry config device boot) ended
begin_stays {D} {disks} entry ended config device boot leaves = record {
  boots = λ quiet there. beginning_stops_law disks entry ended config device boot quiet there leaves;
  keeps = λ quiet there names own. beginning_keeps_law disks entry ended config device boot names quiet there own leaves;
  spares = λ quiet there clear. leaves_weaker (past_of entry) (past_of ended) _ _ (leaves.any_moment quiet) (λ c b. b.spared there clear);
  outside = leaves.outside;
}

-- ---- what was begun

-- what `Surveyed::begin` ensures whatever the past is
pub record Begins {D : Type 0} {disks : Ghosts D} (entry : Volume D disks) (config : configs.Config) (boot : spans.Span) (time : ℕ) (s : Surveyed D disks) : Type 0 where
  pub found : IfSome config.boot (λ device. OnDisks disks entry.disks.now (λ image machine.
      GivesExamined image machine (volume_view entry) (config_view config) (device_view device) (span_view boot) (Ok s.found)))
  pub held : IsFor config boot time true s
  pub leaves : IfSome config.boot (λ device. Leaves entry s.volume (begun_of entry config device boot))
  pub settled : IfSome config.boot (λ device. Settled entry (begun_of entry config device boot) s)
  pub surveys : IfSome config.boot (λ device. Surveys entry (begun_of entry config device boot) s)

module _ {D : Type 0} {disks : Ghosts D} (entry : Volume D disks) (config : configs.Config) (boot : spans.Span) (time : ℕ) (s : Surveyed D disks)
    (begins : Begins entry config boot time s) where
  abbrev Was : Image
  Was = now (past_of entry)

  abbrev Is : Image
  Is = now (past_of s.volume)

  abbrev M : Machine
  M = machine_of disks entry.disks.now

  abbrev Beg : Begun
  Beg = begun_of entry config s.device boot

  -- a fact on the boot device, and back
  at : (P : devices.Device → Type 0) → IfSome config.boot P → P s.device
  at P each = of_some config.boot s.device P begins.held.device_is each

  pub back : (P : devices.Device → Type 0) → P s.device → IfSome config.boot P
  back P holds = subst (λ (o : Option devices.Device). IfSome o P) (sym begins.held.device_is) holds

  pub begun_leaves : Leaves entry s.volume Beg
  begun_leaves = at (λ device. Leaves entry s.volume (begun_of entry config device boot)) begins.leaves

  machine-same : machine_of disks s.volume.disks.now ≡ M
  machine-same = rw (begun_leaves.goes_on.size, begun_leaves.goes_on.geometry) refl

  view-same : volume_view s.volume ≡ volume_view entry
  view-same = rw (begun_leaves.kept.same_span, begun_leaves.kept.same_layout) refl

  -- what holds by what was surveyed holds by what was begun with
  moved : (P : Machine → model.Volume → configs.Config → spans.Span → Bool → ℕ → Type 0) → P (machine_of disks s.volume.disks.now) (volume_view s.volume) s.config s.boot s.settled s.time
      → P M (volume_view entry) config boot true time
  moved P holds =
      subst (λ (t : ℕ). P M (volume_view entry) config boot true t) begins.held.time_is
      (subst (λ (f : Bool). P M (volume_view entry) config boot f s.time) begins.held.settled_is
      (subst (λ (b : spans.Span). P M (volume_view entry) config b s.settled s.time) begins.held.boot_is
      (subst (λ (c : configs.Config). P M (volume_view entry) c s.boot s.settled s.time) begins.held.config_is
      (subst (λ (v : model.Volume). P M v s.config s.boot s.settled s.time) view-same
      (subst (λ (m : Machine). P m (volume_view s.volume) s.config s.boot s.settled s.time) machine-same holds)))))

  module _ (told : IsTold (past_of entry)) where
    pub ex : IsExamined Was M Beg.volume Beg.config Beg.boot Beg.span s.found
    ex =
        told_now (past_of entry) (λ image. IsExamined image M Beg.volume Beg.config Beg.boot Beg.span s.found)
        (at (λ device. Told (past_of entry) (λ image. IsExamined image M (volume_view entry) (config_view config) (device_view device) (span_view boot) s.found)) begins.found) told

    pub tie : IsSettledFrom Was M Beg Is
    tie names passes = (s.found, at (λ device. Settled entry (begun_of entry config device boot) s) begins.settled told)

    pub settled_gains : (ended : Volume D disks) → SameVolume s.volume ended → GainsNothing (volume_view entry) Was (now (past_of ended))
    settled_gains ended same =
        subst (λ (p : Option Past). GainsNothing (volume_view entry) Was (now p)) (sym same.same_disks.same_past)
        (at (λ device. Settled entry (begun_of entry config device boot) s) begins.settled told).gains

    pub told_after : IsTold (past_of s.volume)
    told_after = begun_leaves.goes_on.told told

    abbrev Places : List DiskSector
    Places = mapped_sectors Was M Beg.span

    pub are : AreSurveyed Is (machine_of disks s.volume.disks.now) s ex.names Places
    are = at (λ device. Surveys entry (begun_of entry config device boot) s) begins.surveys told ex.names Places ex.are ex.old.zones

    pub refused_plan : (fault : InstallFault) → Refuses fault (checks_of Is (machine_of disks s.volume.disks.now) s ex.names Places) → Refuses fault (settled_answer Was M Is Beg time)
    refused_plan fault refuses =
        plan_refused Was M Is Beg time s.found ex fault
        (moved (λ m v c b f t. Refuses fault (plan_checks Is m v (config_view c) (device_view s.device) (span_view b) Places ex.names (not f) t)) refuses)

    pub passed_plan : (planned : Planned D disks) (clear : Option Bool) → IsPlanOf Is (machine_of disks s.volume.disks.now) s ex.names Places planned
        → IsPlanned Is (machine_of disks s.volume.disks.now) s planned → IsPlannedFor s planned → clear ≡ s.found.clear
        → settled_answer Was M Is Beg time ≡ Ok (answer_to planned clear)
    passed_plan planned clear of is held same =
        let plan = plan_view planned.plan in
        plan_passes Was M Is Beg time s.found ex plan (places_view planned.room)
        (moved (λ m v c b f t. plan_at Is m v (span_view b) (config_view c) t ≡ Ok plan) of.map)
        (moved (λ m v c b f t. room_for v (parts_of v Is) Places ex.names (wish_of m (config_view c) (not f) t plan) ≡ Ok (places_view planned.room)) of.room)
        (moved (λ m v c b f t. plan_checks Is m v (config_view c) (device_view s.device) (span_view b) Places ex.names (not f) t ≡ Ok (places_view planned.room)) of.passes)
        ∙ ap Ok (report_is Was M Is Beg time s.found ex plan planned.plan.files.skipped clear (ap config_view (held.config_is ∙ begins.held.config_is))
        (moved (λ m v c b f t. planned.plan.files.skipped ≡ skipped_paths Is m v (config_view c).sections) is.chosen.map.skipped) same)

  -- ---- what is answered

  pub gives_back : (result : Result (Planned D disks × Option Bool) (Halt D disks)) → (IsTold (past_of entry) → GivesInstall Was M Beg time result)
      → IfSome config.boot (λ device. OnDisks disks entry.disks.now (λ image machine. GivesInstall image machine (begun_of entry config device boot) time result))
  gives_back result gives =
      back (λ device. OnDisks disks entry.disks.now (λ image machine. GivesInstall image machine (begun_of entry config device boot) time result))
      (told_from (past_of entry) (λ image. GivesInstall image M Beg time result) gives)

  pub gives_refused : (halt : Halt D disks) → SameVolume s.volume halt.volume
      → ((told : IsTold (past_of entry)) → Refuses halt.fault (checks_of Is (machine_of disks s.volume.disks.now) s (ex told).names (Places told)))
      → IsTold (past_of entry) → GivesInstall Was M Beg time (Err halt)
  gives_refused halt same refuses told =
      inr (subst (λ (p : Option Past). IsSettledFrom Was M Beg (now p) × Refuses halt.fault (settled_answer Was M (now p) Beg time)) (sym same.same_disks.same_past)
      (tie told, refused_plan told halt.fault (refuses told)))

  pub gives_planned : (planned : Planned D disks) (clear : Option Bool) → SameVolume s.volume planned.volume
      → ((told : IsTold (past_of entry)) → IsPlanOf Is (machine_of disks s.volume.disks.now) s (ex told).names (Places told) planned)
      → (IsTold (past_of s.volume) → IsPlanned Is (machine_of disks s.volume.disks.now) s planned) → IsPlannedFor s planned → clear ≡ s.found.clear
      → IsTold (past_of entry) → GivesInstall Was M Beg time (Ok (planned, clear))
  gives_planned planned clear same of is held clear-is told =
      subst (λ (p : Option Past). IsSettledFrom Was M Beg (now p) × (settled_answer Was M (now p) Beg time ≡ Ok (answer_to planned clear))) (sym same.same_disks.same_past)
      (tie told, passed_plan told planned clear (of told) (is (told_after told)) held clear-is)

  -- ---- what may be done with it

  module _ (planned : Planned D disks) (held : IsPlannedFor s planned) (same : SameVolume s.volume planned.volume) where
    told-before : IsTold (past_of planned.volume) → IsTold (past_of entry)
    told-before told = begun_leaves.goes_on.told_before (subst IsTold same.same_disks.same_past told)

    pub ready_to_stage : IsReady planned
        → IfSome config.boot (λ device. OnDisks disks entry.disks.now (λ image machine. LiesThere image machine (begun_of entry config device boot))) → IsReadyToStage planned
    ready_to_stage ready there = record {
      ready = ready;
      settled = held.settled_is ∙ begins.held.settled_is;
      apart = λ told-plan.
          let told = told-before told-plan in
          let lies = told_now (past_of entry) (λ image. LiesThere image M Beg)
          (at (λ device. Told (past_of entry) (λ image. LiesThere image M (begun_of entry config device boot))) there) told in
          let base = apart_boot_law Was M Beg.volume Beg.config Beg.boot Beg.span (ex told).sound (ex told).apart lies in
          let view : volume_view planned.volume ≡ volume_view entry = same_view s.volume planned.volume same ∙ view-same in
          subst₂ (λ (v : model.Volume) (b : spans.Span). IsApartSector v b.disk b.start) (sym view) (sym (held.boot_is ∙ begins.held.boot_is)) base;
    }

  -- ---- what is left

  pub planned_stays : (ended : Volume D disks) → SameVolume s.volume ended → IfSome config.boot (λ device. StaysBegun entry (begun_of entry config device boot) ended)
  planned_stays ended same =
      let stays = begin_stays entry s.volume config s.device boot begun_leaves in
      back (λ device. StaysBegun entry (begun_of entry config device boot) ended)
      (record {
        boots = λ quiet there.
            subst (λ (p : Option Past). StaysAsBefore (machine_on entry) (volume_view entry) (span_view boot) (past_of entry) p) (sym same.same_disks.same_past) (stays.boots quiet there);
        keeps = λ quiet there names own.
            subst (λ (p : Option Past). KeepsMost (machine_on entry) Beg names (past_of entry) p) (sym same.same_disks.same_past) (stays.keeps quiet there names own);
        spares = λ quiet there. subst (λ (p : Option Past). SparesClear (machine_on entry) Beg (past_of entry) p) (sym same.same_disks.same_past) (stays.spares quiet there);
        outside = λ told. subst (λ (p : Option Past). WritesNoApart (volume_view entry) (past_of entry) p) (sym same.same_disks.same_past) (stays.outside told);
      })

  pub planned_reference : (ended : Volume D disks) → SameVolume s.volume ended → ended.disks.ghost_name ≡ entry.disks.ghost_name
  planned_reference ended same = same.same_reference ∙ begun_leaves.kept.same_reference

  pub planned_kept : (planned : Volume D disks) → SameVolume s.volume planned → KeepsVolume entry planned
  planned_kept planned same = keeps_join entry s.volume planned begun_leaves.kept (keeps_same s.volume planned same)

  pub planned_goes_on : (ended : Volume D disks) → SameVolume s.volume ended → faults_of s.volume ≤ faults_of ended → GoesOn disks entry.disks.now ended.disks.now
  planned_goes_on ended same later =
      goes_on_join disks entry.disks.now s.volume.disks.now ended.disks.now begun_leaves.goes_on (goes_on_unchanged s.volume ended same later)
