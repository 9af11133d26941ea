-- In which phase a disk failed, by how far an installation came.
use Rattle.std.proofs.Common.{◌≡◌, ◌≤◌, ◌∙◌, ℕ, Bool, true, List, Option, Some, Result, Ok, Err, refl, sym, ap, subst, subst₂, inl, inr, arith}
use Rattle.std.specs.Prelude.{IfSome, is_some}
use Rattle.disk_trait.specs.declared.disks.Disks.{Ghosts}
use Rattle.disk_trait.specs.declared.disks.Phase.{Phase}
use Rattle.disk_trait.specs.declared.disks.Phase.TheVariants.{Before, Commit, After}
use Rattle.disk_trait.specs.declared.disks.Span as spans
use Rattle.disk_trait.specs.declared.disks.DiskFault.TheVariants.{Failed}
use Rattle.disk_trait.specs.Calls.{GoesOn, SameOf}
use Rattle.disk_trait.specs.Moments.{IsTold, now, IsQuiet, IsWhole}
use Rattle.disk_trait.specs.Past.{Past, Told}
use Rattle.disk_trait.proofs.CallLemmas.{goes_on_join, goes_on_same}
use Rattle.disk_trait.proofs.MomentLemmas.{told_now, leaves_none}
use Rattle.lilo_model.specs.Disks.{Image, Machine, Span}
use Rattle.lilo_model.specs.MinixParts as model
use Rattle.lilo_model.specs.MinixParts.{volume_at}
use Rattle.lilo_model.specs.Faults.{Rose}
use Rattle.lilo_model.proofs.RoseLemmas.{rose_after}
use Rattle.lilo_conf.specs.declared.config.Config as configs
use Rattle.mbr_table.specs.declared.device.Device as devices
use Rattle.minix_zones.specs.View.{span_view}
use Rattle.minix_zones.specs.Volume.{past_of, sizes_of, faults_of}
use Rattle.minix_zones.specs.declared.volume.Volume.{Volume}
use Rattle.sector_address.specs.Machine.{machine_of, OnDisks}
use Rattle.stream_trait.specs.Shows.{SinkState}
use Rattle.install_run.specs.Texts.{device_status, fault_status}
use Rattle.install_run.proofs.StatusLemmas.{of_status}
use Rattle.install_begin.specs.Begin as begins
use Rattle.install_begin.specs.Begin.{begun_with}
use Rattle.install_laws.specs.InstallVerdict.{Begun}
use Rattle.install_order.specs.Begins.{LiesThere}
use Rattle.install_order.specs.Faults.{HasInstallCause}
use Rattle.install_order.specs.View.{begun_of}
use Rattle.install_order.specs.declared.fault.InstallFault.{InstallFault}
use Rattle.install_order.specs.declared.fault.InstallFault.TheVariants as faults
use Rattle.install_order.specs.declared.halt.Halt.{Halt}
use Rattle.install_order.specs.declared.planned.Planned.{Planned}
use Rattle.install_order.specs.declared.staged.Staged.{Staged}
use Rattle.install_order.specs.declared.surveyed.Surveyed.{Surveyed}
use Rattle.install_join_laws.specs.Steps.{HasStaged, IsBegunWith, begun_from, machine_on}
use Rattle.install_join_laws.proofs.Begun.{leaves}
use Rattle.install_join_laws.proofs.Prepared.{staging_stops_law}
use Rattle.install_run.proofs.TrialLemmas.{of_some}
use Rattle.install_run.specs.Answers.{GivesInstall, IsDiskFault, IsSettledFrom}
use Rattle.install_run.specs.Phases.{FailsBy, FailsIn, IsUncommitted}
use Rattle.install_run.specs.Staged.{IsStaged, IsStagedFrom, IsStagedOn}
use Rattle.install_run.specs.Steps.{Finishes, FinishedEarly, FinishedWhole, HaltedCommit, HaltedStaging, HaltedTidying, IsHalted, IsPrepared, IsReadyToStage, StaysBegun}
use Rattle.install_run.proofs.CarriedLemmas.{tidies_some}
use Rattle.install_run.proofs.InstalledLemmas.{flushed, for_device, same_begun, some_is, staged_is, unflushed}
use Rattle.install_run.proofs.PreviewStateLemmas.{told_from}

-- ---- by the status

bounds : (n : ℕ) (phase : Phase) → n ≡ device_status phase → (8 ≤ n) × (n ≤ 10)
bounds n Before is = (omega (arith, is), omega (arith, is))
bounds n Commit is = (omega (arith, is), omega (arith, is))
bounds n After is = (omega (arith, is), omega (arith, is))

pub disk_fault_at : (status : ℕ) (phase : Phase) → status ≡ device_status phase → IsDiskFault status
disk_fault_at status Before is = inl is
disk_fault_at status Commit is = inr (inl is)
disk_fault_at status After is = inr (inr is)

same_phase : (one other : Phase) → device_status one ≡ device_status other → one ≡ other
same_phase Before Before is = refl
same_phase Before Commit is = absurd (omega (arith, is))
same_phase Before After is = absurd (omega (arith, is))
same_phase Commit Before is = absurd (omega (arith, is))
same_phase Commit Commit is = refl
same_phase Commit After is = absurd (omega (arith, is))
same_phase After Before is = absurd (omega (arith, is))
same_phase After Commit is = absurd (omega (arith, is))
same_phase After After is = refl

-- the status of a disk that failed is that of no other refusal
device_at : (fault : InstallFault) (phase at : Phase) (before after : ℕ) → HasInstallCause before after fault → fault_status fault phase ≡ device_status at
    → (fault ≡ faults.Device) × (phase ≡ at)
device_at fault phase at before after =
    of_status IsIt phase (λ f cause is. absurd (let b = bounds 3 at is in omega (arith, b.0))) (λ f cause is. absurd (let b = bounds 4 at is in omega (arith, b.0)))
    (λ f cause is. absurd (let b = bounds 5 at is in omega (arith, b.0))) (λ f cause is. absurd (let b = bounds 13 at is in omega (arith, b.1)))
    (λ cause is. cc) (λ cause is. (refl, same_phase phase at is)) fault
  where
    IsIt : InstallFault → ℕ → Type 0
    IsIt f status = HasInstallCause before after f → status ≡ device_status at → (f ≡ faults.Device) × (phase ≡ at)

-- ---- since an earlier moment

-- after a call that only read
pub fails_since : {D : Type 0} → (g : Ghosts D) (status : ℕ) (Staged : Option Past → List ℕ → Type 0) (span : Span) (old mid new : D) → g.past mid ≡ g.past old → GoesOn g old mid
    → FailsBy g status Staged span mid new → FailsBy g status Staged span old new
fails_since {D} g status Staged span old mid new same goes_on fails phase is = by phase (fails phase is)
  where
    back : (ended : Option Past) → IsUncommitted span (g.past mid) ended → IsUncommitted span (g.past old) ended
    back ended = subst (λ (p : Option Past). IsUncommitted span p ended) same

    by : (phase : Phase) → FailsIn g phase Staged span mid new → FailsIn g phase Staged span old new
    by Before f = record { uncommitted = back (g.past new) f.uncommitted; rose = rose_after _ _ _ goes_on.later f.rose }
    by Commit f = record {
      before = f.before;
      came = goes_on_join g old mid f.before goes_on f.came;
      uncommitted = back (g.past f.before) f.uncommitted;
      bytes = f.bytes;
      staged = f.staged;
      goes_on = f.goes_on;
      commits = f.commits;
      rose = f.rose;
    }
    by After f = record {
      before = f.before;
      committed = f.committed;
      came = goes_on_join g old mid f.before goes_on f.came;
      uncommitted = back (g.past f.before) f.uncommitted;
      bytes = f.bytes;
      staged = f.staged;
      on = f.on;
      commits = f.commits;
      goes_on = f.goes_on;
      rose = f.rose;
    }

-- where nothing was written
pub fails_still : {D : Type 0} → (g : Ghosts D) (Staged : Option Past → List ℕ → Type 0) (span : Span) (old new : D) → g.past new ≡ g.past old → IsQuiet (g.past old)
    → Rose (g.faults old) (g.faults new) → FailsBy g 8 Staged span old new
fails_still g Staged span old new same quiet rose phase is =
    subst (λ (p : Phase). FailsIn g p Staged span old new) (same_phase Before phase is)
    (record {
      uncommitted =
          subst (λ (p : Option Past). IsUncommitted span (g.past old) p) (sym same)
          (leaves_none (g.past old) _ (λ c left. ap (λ (image : Image). image span.disk span.start) (quiet c left)));
      rose = rose;
    })

-- what is staged is so in other words
pub fails_weaker : {D : Type 0} → (g : Ghosts D) (status : ℕ) (Staged Other : Option Past → List ℕ → Type 0) (span : Span) (old new : D)
    → ((past : Option Past) (bytes : List ℕ) → Staged past bytes → Other past bytes) → FailsBy g status Staged span old new → FailsBy g status Other span old new
fails_weaker g status Staged Other span old new to fails phase is = by phase (fails phase is)
  where
    by : (phase : Phase) → FailsIn g phase Staged span old new → FailsIn g phase Other span old new
    by Before f = f
    by Commit f = record {
      before = f.before;
      came = f.came;
      uncommitted = f.uncommitted;
      bytes = f.bytes;
      staged = to (g.past f.before) f.bytes f.staged;
      goes_on = f.goes_on;
      commits = f.commits;
      rose = f.rose;
    }
    by After f = record {
      before = f.before;
      committed = f.committed;
      came = f.came;
      uncommitted = f.uncommitted;
      bytes = f.bytes;
      staged = to (g.past f.before) f.bytes f.staged;
      on = f.on;
      commits = f.commits;
      goes_on = f.goes_on;
      rose = f.rose;
    }

-- ---- as disks were read first

ok-same : {A F : Type 0} (r : Result A F) (a b : A) → r ≡ Ok a → r ≡ Ok b → a ≡ b
ok-same r a b first second = cc

module _ {D : Type 0} (g : Ghosts D) (old mid new : D) (same : SameOf g old mid) (later : g.faults old ≤ g.faults mid) (status : ℕ) (read : begins.Begun) where
  machine-same : machine_of g mid ≡ machine_of g old
  machine-same = rw (same.same_size, same.same_geometry) refl

  since : (Staged : Option Past → List ℕ → Type 0) → FailsBy g status Staged read.span mid new → FailsBy g status Staged read.span old new
  since Staged =
      fails_since g status Staged read.span old mid new same.same_past
      (goes_on_same g old mid same.same_past record { later = later; size = same.same_size; count = same.same_count; geometry = same.same_geometry })

  -- what it begins with
  pub read_fails : Told (g.past mid) (λ image. IsQuiet (g.past mid) → FailsBy g status (IsStagedOn image (machine_of g mid) read (g.past mid)) read.span mid new)
      → IsTold (g.past old) → IsQuiet (g.past old) → FailsBy g status (IsStagedOn (now (g.past old)) (machine_of g old) read (g.past old)) read.span old new
  read_fails fails told quiet =
      since (IsStagedOn (now (g.past old)) (machine_of g old) read (g.past old))
      (subst₂ (λ (m : Machine) (p : Option Past). FailsBy g status (IsStagedOn (now p) m read p) read.span mid new) machine-same same.same_past
      (told_now (g.past mid) (λ image. IsQuiet (g.past mid) → FailsBy g status (IsStagedOn image (machine_of g mid) read (g.past mid)) read.span mid new) fails
      (subst (λ (p : Option Past). IsTold p) (sym same.same_past) told) (subst (λ (p : Option Past). IsQuiet p) (sym same.same_past) quiet)))

  -- the volume
  pub attached_fails : (volume : model.Volume) → Told (g.past old) (λ image. volume_at image read.volume ≡ Ok volume)
      → Told (g.past mid) (λ image. IsQuiet (g.past mid) → FailsBy g status (IsStagedFrom (machine_of g mid) (begun_with read volume) (g.past mid)) read.span mid new)
      → Told (g.past old) (λ image. IsQuiet (g.past old) → FailsBy g status (IsStagedOn image (machine_of g old) read (g.past old)) read.span old new)
  attached_fails volume is fails =
      told_from (g.past old) (λ image. IsQuiet (g.past old) → FailsBy g status (IsStagedOn image (machine_of g old) read (g.past old)) read.span old new)
      (λ told quiet.
      let there = told_now (g.past old) (λ image. volume_at image read.volume ≡ Ok volume) is told in
      since (IsStagedOn (now (g.past old)) (machine_of g old) read (g.past old))
      (fails_weaker g status (IsStagedFrom (machine_of g old) (begun_with read volume) (g.past old)) (IsStagedOn (now (g.past old)) (machine_of g old) read (g.past old)) read.span mid new
      (λ past bytes staged other there'.
      subst (λ (v : model.Volume). IsStagedFrom (machine_of g old) (begun_with read v) (g.past old) past bytes) (ok-same (volume_at (now (g.past old)) read.volume) volume other there there') staged)
      (subst₂ (λ (m : Machine) (p : Option Past). FailsBy g status (IsStagedFrom m (begun_with read volume) p) read.span mid new) machine-same same.same_past
      (told_now (g.past mid) (λ image. IsQuiet (g.past mid) → FailsBy g status (IsStagedFrom (machine_of g mid) (begun_with read volume) (g.past mid)) read.span mid new) fails
      (subst (λ (p : Option Past). IsTold p) (sym same.same_past) told) (subst (λ (p : Option Past). IsQuiet p) (sym same.same_past) quiet)))))

-- ---- once it was planned

module _ {D : Type 0} {disks : Ghosts D} (entry : Volume D disks) (config : configs.Config) (boot : spans.Span) (time : ℕ) (planned : Planned D disks)
    (prepared : IsPrepared entry config boot time planned) (ready : IsReadyToStage planned) (told : IsTold (past_of entry)) (quiet : IsQuiet (past_of entry))
    (whole : IsWhole (sizes_of entry) (past_of entry)) where
  abbrev S : Surveyed D disks
  S = prepared.surveyed

  is : IsBegunWith entry config boot time S
  is = prepared.begun told quiet

  told-planned : IsTold (past_of planned.volume)
  told-planned = subst IsTold (sym prepared.has.same.same_disks.same_past) ((leaves entry config boot time S is).goes_on.told told)

  module _ (there : LiesThere (now (past_of entry)) (machine_on entry) (begun_from entry S)) (goes_on : GoesOn disks entry.disks.now planned.volume.disks.now)
      (tie : IsSettledFrom (now (past_of entry)) (machine_on entry) (begun_from entry S) (now (past_of planned.volume))) where
    abbrev St : Option Past → List ℕ → Type 0
    St = IsStagedFrom (machine_on entry) (begun_from entry S) (past_of entry)

    module _ (staged : Staged D disks) (stages : HasStaged planned staged) where
      staged-came : GoesOn disks entry.disks.now staged.volume.disks.now
      staged-came = goes_on_join disks entry.disks.now planned.volume.disks.now staged.volume.disks.now goes_on stages.stages.stages.goes_on

      so : IsStaged (machine_on entry) (begun_from entry S) (now (past_of planned.volume)) (past_of entry) (past_of staged.volume) staged.sector
      so = staged_is entry config boot time planned prepared ready told quiet whole there staged stages

      staged-so : St (past_of staged.volume) staged.sector
      staged-so = record { settled = now (past_of planned.volume); from = tie; is = so }

    halted-fails : (halt : Halt D disks) → IsHalted planned halt → Rose (faults_of planned.volume) (faults_of halt.volume)
        → FailsIn disks halt.phase St (span_view S.boot) entry.disks.now halt.volume.disks.now
    halted-fails halt (HaltedStaging phase halts) rose =
        subst (λ (p : Phase). FailsIn disks p St (span_view S.boot) entry.disks.now halt.volume.disks.now) (sym phase)
        (record {
          uncommitted = (staging_stops_law disks entry config boot time S planned halt is prepared.has there halts).boot;
          rose = rose_after _ _ _ goes_on.later rose;
        })
    halted-fails halt (HaltedCommit phase staged stages halts) rose =
        subst (λ (p : Phase). FailsIn disks p St (span_view S.boot) entry.disks.now halt.volume.disks.now) (sym phase)
        (record {
          before = staged.volume.disks.now;
          came = staged-came staged stages;
          uncommitted = (so staged stages).stays.boot;
          bytes = staged.sector;
          staged = staged-so staged stages;
          goes_on = halts.commits.goes_on;
          commits = unflushed entry config boot time planned prepared ready told quiet whole there staged stages halt.volume Failed halts.commits;
          rose = halts.commits.failed.1;
        })
    halted-fails halt (HaltedTidying phase staged stages committed commits may halts) rose =
        let commit = commits.commits in
        let told-staged = stages.stages.stages.goes_on.told told-planned in
        let tidies = (tidies_some committed may halt.volume (Err halts.fault) halts.tidies).1 in
        subst (λ (p : Phase). FailsIn disks p St (span_view S.boot) entry.disks.now halt.volume.disks.now) (sym phase)
        (record {
          before = staged.volume.disks.now;
          committed = committed.volume.disks.now;
          came = staged-came staged stages;
          uncommitted = (so staged stages).stays.boot;
          bytes = staged.sector;
          staged = staged-so staged stages;
          on = commit.goes_on;
          commits = flushed entry config boot time planned prepared ready told quiet whole there staged stages committed.volume commit;
          goes_on = tidies.goes_on;
          rose = (tidies.device (commit.goes_on.told told-staged)).1;
        })

    finished-fails : (status : ℕ) (ended : D) (old new : SinkState) → Finishes planned status ended old new → (IsDiskFault status → Rose (faults_of planned.volume) (disks.faults ended))
        → FailsBy disks status St (span_view S.boot) entry.disks.now ended
    finished-fails status ended old new (FinishedWhole tidied carried same zero rest) cause phase is =
        absurd (let b = bounds status phase is in omega (arith, zero, b.0))
    finished-fails status ended old new (FinishedEarly halt halted same device status-is said) cause phase at =
        let came : device_status halt.phase ≡ device_status phase = sym (status-is ∙ ap (λ fault. fault_status fault halt.phase) (device told-planned)) ∙ at in
        let rose = subst (λ (d : D). Rose (faults_of planned.volume) (disks.faults d)) (sym same) (cause (disk_fault_at status phase at)) in
        subst₂ (λ (p : Phase) (d : D). FailsIn disks p St (span_view S.boot) entry.disks.now d) (same_phase halt.phase phase came) same (halted-fails halt halted rose)

-- for the boot device that there is
module _ {D : Type 0} {disks : Ghosts D} (entry : Volume D disks) (config : configs.Config) (boot : spans.Span) (named : is_some config.boot ≡ true) (status : ℕ) (ended : D) where
  abbrev pub IsThere : devices.Device → Type 0
  IsThere device = OnDisks disks entry.disks.now (λ image machine. LiesThere image machine (begun_of entry config device boot))

  abbrev Fails : devices.Device → Type 0
  Fails device =
      FailsBy disks status (IsStagedFrom (machine_of disks entry.disks.now) (begun_of entry config device boot) (past_of entry)) (span_view boot) entry.disks.now ended

  abbrev FailsFor : devices.Device → Type 0
  FailsFor device =
      OnDisks disks entry.disks.now (λ image machine. IsQuiet (past_of entry)
      → FailsBy disks status (IsStagedFrom machine (begun_of entry config device boot) (past_of entry)) (span_view boot) entry.disks.now ended)

  fails-for : (device : devices.Device) → config.boot ≡ Some device → (IsTold (past_of entry) → IsQuiet (past_of entry) → Fails device) → IfSome config.boot FailsFor
  fails-for device is fails =
      for_device config.boot device FailsFor is (told_from (past_of entry) (λ image. IsQuiet (past_of entry) → Fails device) fails)

  there-at : (device : devices.Device) → config.boot ≡ Some device → IfSome config.boot IsThere → IsTold (past_of entry)
      → LiesThere (now (past_of entry)) (machine_on entry) (begun_of entry config device boot)
  there-at device is there told =
      told_now (past_of entry) (λ image. LiesThere image (machine_on entry) (begun_of entry config device boot)) (of_some config.boot device IsThere is there) told

  pub planned_fails : (time : ℕ) (planned : Planned D disks) (clear : Option Bool) (prepared : IsPrepared entry config boot time planned) (ready : IsReadyToStage planned)
      (whole : IsWhole (sizes_of entry) (past_of entry)) → IfSome config.boot IsThere
      → IfSome config.boot (λ device. OnDisks disks entry.disks.now (λ image machine. GivesInstall image machine (begun_of entry config device boot) time (Ok (planned, clear))))
      → (old new : SinkState) → Finishes planned status ended old new → GoesOn disks entry.disks.now planned.volume.disks.now
      → (IsDiskFault status → Rose (faults_of planned.volume) (disks.faults ended)) → IfSome config.boot FailsFor
  planned_fails time planned clear prepared ready whole there gives old new finishes goes_on cause =
      let some = some_is config.boot named in
      let device = some.0 in
      fails-for device some.1
      (λ told quiet.
      let same = same_begun entry config boot time planned prepared ready told quiet whole device some.1 in
      let given = told_now (past_of entry) (λ image. GivesInstall image (machine_on entry) (begun_of entry config device boot) time (Ok (planned, clear)))
      (of_some config.boot device (λ d. OnDisks disks entry.disks.now (λ image m. GivesInstall image m (begun_of entry config d boot) time (Ok (planned, clear)))) some.1 gives) told in
      subst (λ (b : Begun). FailsBy disks status (IsStagedFrom (machine_on entry) b (past_of entry)) b.span entry.disks.now ended) same
      (finished-fails entry config boot time planned prepared ready told quiet whole
      (subst (LiesThere (now (past_of entry)) (machine_on entry)) (sym same) (there-at device some.1 there told)) goes_on
      (subst (λ (b : Begun). IsSettledFrom (now (past_of entry)) (machine_on entry) b (now (past_of planned.volume))) (sym same) given.0) status ended old new finishes cause))

  -- ---- before that

  pub refused_fails : IfSome config.boot IsThere → (halt : Halt D disks) → ended ≡ halt.volume.disks.now
      → IfSome config.boot (λ device. StaysBegun entry (begun_of entry config device boot) halt.volume) → status ≡ fault_status halt.fault Before
      → HasInstallCause (faults_of entry) (faults_of halt.volume) halt.fault → IfSome config.boot FailsFor
  refused_fails there halt end stays status-is cause =
      let some = some_is config.boot named in
      let device = some.0 in
      fails-for device some.1
      (λ told quiet phase at.
      let left = of_some config.boot device (λ device. StaysBegun entry (begun_of entry config device boot) halt.volume) some.1 stays in
      let lost = device_at halt.fault Before phase (faults_of entry) (faults_of halt.volume) cause (sym status-is ∙ at) in
      subst₂ (λ (p : Phase) (d : D). FailsIn disks p (IsStagedFrom (machine_of disks entry.disks.now) (begun_of entry config device boot) (past_of entry)) (span_view boot) entry.disks.now d)
      lost.1 (sym end)
      (record {
        uncommitted = (left.boots quiet (there-at device some.1 there told)).boot;
        rose = subst (HasInstallCause (faults_of entry) (faults_of halt.volume)) lost.0 cause;
      }))
