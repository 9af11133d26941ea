-- How far an installation that is planned came.
use Rattle.std.proofs.Common.{◌≡◌, ◌≤◌, ◌∙◌, ℕ, List, [], Option, Some, None, Result, Ok, Err, IfOk, IfErr, refl, sym, ap, subst, inl, inr, arith}
use Rattle.std.specs.Prelude.{IsTrue}
use Rattle.disk_trait.specs.declared.disks.Disks.{Ghosts}
use Rattle.disk_trait.specs.declared.disks.Phase.{Phase}
use Rattle.disk_trait.specs.declared.disks.Phase.TheVariants.{Before, Commit, After}
use Rattle.disk_trait.specs.Calls.{GoesOn}
use Rattle.disk_trait.specs.Moments.{IsTold, IsQuiet}
use Rattle.disk_trait.specs.Past.{Past}
use Rattle.lilo_model.specs.Faults.{Rose}
use Rattle.minix_choice.specs.declared.write_fault.WriteFault.{WriteFault}
use Rattle.minix_choice.specs.declared.write_fault.WriteFault.TheVariants as writes
use Rattle.minix_zones.specs.Volume.{past_of, faults_of}
use Rattle.minix_zones.specs.declared.volume.Volume.{Volume}
use Rattle.sector_address.specs.Machine.{machine_of}
use Rattle.install_run.specs.Texts.{device_status, fault_status}
use Rattle.install_run.proofs.StatusLemmas.{of_status, rose_by}
use Rattle.install_order.specs.Faults.{HasInstallCause, write_refusal}
use Rattle.install_order.specs.Stageable.{path_made}
use Rattle.install_order.specs.States.{HaltsCommit, HaltsStaging, HaltsTidying, IsCommitted, IsTidiedFrom, MayBeTidied, StopsStaging, TidiesFrom, is_forced}
use Rattle.install_order.specs.declared.committed.Committed.{Committed}
use Rattle.install_order.specs.declared.fault.InstallFault.{InstallFault}
use Rattle.install_order.specs.declared.fault.InstallFault.TheVariants as faults
use Rattle.install_order.specs.declared.halt.Halt.{Halt}
use Rattle.install_order.specs.declared.planned.Planned.{Planned}
use Rattle.install_order.specs.declared.staged.Staged.{Staged}
use Rattle.install_order.specs.declared.tidied.Tidied.{Tidied}
use Rattle.install_settle.specs.Tidies.{Tidies}
use Rattle.install_join_laws.specs.Steps.{HasStaged}
use Rattle.install_run.specs.Answers.{IsDiskFault, is_install_status}
use Rattle.install_run.specs.Steps.{Carries, HaltedTidying, IsReadyToStage, volume_after}
use Rattle.install_run.proofs.PreparedLemmas.{cause_from}

-- ---- a disk failed

-- a staging of a plan on disks that report their past is refused for that alone
pub staging_lost : {D : Type 0} {disks : Ghosts D} → (planned : Planned D disks) → IsReadyToStage planned → (halt : Halt D disks) → HaltsStaging planned halt
    → IsTold (past_of planned.volume) → halt.fault ≡ faults.Device
staging_lost {D} {disks} planned ready halt halts told = halts.fault_is ∙ ap write_refusal (by halts.stops)
  where
    by : StopsStaging planned.volume (is_forced planned) planned.present planned.plan planned.room (record { volume = halt.volume; fault = halts.fault }) → halts.fault ≡ writes.Device
    by (inl stopped) = stopped.1
    by (inr from) =
        let may = ready.ready.may told ready.settled in
        let stages = from.stages (machine_of disks planned.volume.disks.now) (path_made planned.room.backup may.names.backup) may.names.map (λ t. may.room) in
        (stages.device (from.syncs.flushes.goes_on.told told)).0

-- ---- tidying

-- what is known of it, for a path
module _ {D : Type 0} {disks : Ghosts D} (committed : Committed D disks) (may : MayBeTidied committed) where
  pub tidies_some : (new : Volume D disks) (result : Result (Unit {0}) WriteFault) → TidiesFrom committed new result
      → (path : List (List ℕ)) × Tidies committed.volume new path committed.map.tilde.directory result
  unfolding IsTold
  tidies_some new result tidies = by (past_of committed.volume) refl
    where
      by : (past : Option Past) → past_of committed.volume ≡ past → (path : List (List ℕ)) × Tidies committed.volume new path committed.map.tilde.directory result
      by None is = ([], tidies [] (λ told. absurd (subst IsTold is told)))
      by (Some past) is = let some = may.may (subst IsTold (sym is) tt) in (some.path, tidies some.path (λ told. some.may))

  -- on disks that report their past it is refused as one failed, and for that alone
  pub tidying_lost : (halt : Halt D disks) → HaltsTidying committed halt → IsTold (past_of committed.volume) → halt.fault ≡ faults.Device
  tidying_lost halt halts told = halts.fault_is ∙ ap write_refusal ((tidies_some halt.volume (Err halts.fault) halts.tidies).1.device told).0

  module _ (result : Result (Tidied D disks) (Halt D disks)) (ok : IfOk result (IsTidiedFrom committed)) (err : IfErr result (HaltsTidying committed)) where
    pub tidied_goes_on : GoesOn disks committed.volume.disks.now (volume_after result).disks.now
    tidied_goes_on = by result ok err
      where
        by : (r : Result (Tidied D disks) (Halt D disks)) → IfOk r (IsTidiedFrom committed) → IfErr r (HaltsTidying committed) → GoesOn disks committed.volume.disks.now (volume_after r).disks.now
        by (Ok tidied) tidies none = (tidies_some tidied.volume (Ok tt) tidies).1.goes_on
        by (Err halt) none halts = (tidies_some halt.volume (Err halts.fault) halts.tidies).1.goes_on

    pub tidied_reference : (volume_after result).disks.ghost_name ≡ committed.volume.disks.ghost_name
    tidied_reference = by result ok err
      where
        by : (r : Result (Tidied D disks) (Halt D disks)) → IfOk r (IsTidiedFrom committed) → IfErr r (HaltsTidying committed) → (volume_after r).disks.ghost_name ≡ committed.volume.disks.ghost_name
        by (Ok tidied) tidies none = (tidies_some tidied.volume (Ok tt) tidies).1.kept.same_reference
        by (Err halt) none halts = (tidies_some halt.volume (Err halts.fault) halts.tidies).1.kept.same_reference

    pub tidied_lost : IsTold (past_of committed.volume) → IfErr result (λ halt. halt.fault ≡ faults.Device)
    tidied_lost told = by result err
      where
        by : (r : Result (Tidied D disks) (Halt D disks)) → IfErr r (HaltsTidying committed) → IfErr r (λ halt. halt.fault ≡ faults.Device)
        by (Ok tidied) none = tt
        by (Err halt) halts = tidying_lost halt halts told

    pub tidied_carries : (planned : Planned D disks) (staged : Staged D disks) → HasStaged planned staged → IsCommitted staged committed
        → IfOk result (λ tidied. IsQuiet (past_of tidied.volume)) → IfErr result (λ halt. halt.phase ≡ After) → Carries planned result
    tidied_carries planned staged stages commits quiet phase = by result ok err quiet phase
      where
        by : (r : Result (Tidied D disks) (Halt D disks)) → IfOk r (IsTidiedFrom committed) → IfErr r (HaltsTidying committed)
            → IfOk r (λ tidied. IsQuiet (past_of tidied.volume)) → IfErr r (λ halt. halt.phase ≡ After) → Carries planned r
        by (Ok tidied) tidies none still phase = record { staged = staged; stages = stages; committed = committed; commits = commits; may = may; tidies = tidies; quiet = still }
        by (Err halt) none halts still after = HaltedTidying after staged stages committed commits may halts

-- a cause of a refusal is one since an earlier count
pub causes_from : {D : Type 0} {disks : Ghosts D} → (result : Result (Tidied D disks) (Halt D disks)) (before mid : ℕ) → before ≤ mid
    → IfErr result (λ halt. HasInstallCause mid (faults_of halt.volume) halt.fault) → IfErr result (λ halt. HasInstallCause before (faults_of halt.volume) halt.fault)
causes_from (Ok tidied) before mid below cause = tt
causes_from (Err halt) before mid below cause = cause_from halt.fault before mid (faults_of halt.volume) below cause

-- a staging that was refused goes on
pub stopped_goes_on : {D : Type 0} {disks : Ghosts D} → (planned : Planned D disks) (halt : Halt D disks) → HaltsStaging planned halt
    → GoesOn disks planned.volume.disks.now halt.volume.disks.now
stopped_goes_on {D} {disks} planned halt halts = by halts.stops
  where
    by : StopsStaging planned.volume (is_forced planned) planned.present planned.plan planned.room (record { volume = halt.volume; fault = halts.fault })
        → GoesOn disks planned.volume.disks.now halt.volume.disks.now
    by (inl stopped) = stopped.0.flushes.goes_on
    by (inr from) = from.goes_on

-- and holds the same disks
pub stopped_reference : {D : Type 0} {disks : Ghosts D} → (planned : Planned D disks) (halt : Halt D disks) → HaltsStaging planned halt
    → halt.volume.disks.ghost_name ≡ planned.volume.disks.ghost_name
stopped_reference {D} {disks} planned halt halts = by halts.stops
  where
    by : StopsStaging planned.volume (is_forced planned) planned.present planned.plan planned.room (record { volume = halt.volume; fault = halts.fault })
        → halt.volume.disks.ghost_name ≡ planned.volume.disks.ghost_name
    by (inl stopped) = stopped.0.kept.same_reference
    by (inr from) = from.kept.same_reference

-- the cause of a commit that was refused
pub commit_cause : {D : Type 0} {disks : Ghosts D} → (staged : Staged D disks) (halt : Halt D disks) → HaltsCommit staged halt
    → HasInstallCause (faults_of staged.volume) (faults_of halt.volume) halt.fault
commit_cause staged halt halts =
    subst (HasInstallCause (faults_of staged.volume) (faults_of halt.volume)) (sym halts.fault_is) halts.commits.failed.1

-- ---- what is answered

-- a status of a disk that failed lies between these
fault_bounds : (status : ℕ) → IsDiskFault status → (8 ≤ status) × (status ≤ 10)
fault_bounds status (inl is) = (omega (arith, is), omega (arith, is))
fault_bounds status (inr (inl is)) = (omega (arith, is), omega (arith, is))
fault_bounds status (inr (inr is)) = (omega (arith, is), omega (arith, is))

-- so it is that of no other refusal
pub rose_in : (fault : InstallFault) (phase : Phase) (before after : ℕ) → HasInstallCause before after fault → IsDiskFault (fault_status fault phase) → Rose before after
rose_in = rose_by IsDiskFault
    (λ is. let lies = fault_bounds 3 is in omega (arith, lies.0)) (λ is. let lies = fault_bounds 4 is in omega (arith, lies.0))
    (λ is. let lies = fault_bounds 5 is in omega (arith, lies.0)) (λ is. let lies = fault_bounds 13 is in omega (arith, lies.1))

-- each refusal has one of these
pub status_in : (fault : InstallFault) (phase : Phase) (status : ℕ) → status ≡ fault_status fault phase → IsTrue (is_install_status status)
status_in fault phase status is =
    subst Known (sym is) (of_status (λ f given. Known given) phase (λ f. refl) (λ f. refl) (λ f. refl) (λ f. refl) refl (of_phase phase) fault)
  where
    Known : ℕ → Type 0
    Known given = IsTrue (is_install_status given)

    of_phase : (phase : Phase) → Known (device_status phase)
    of_phase Before = refl
    of_phase Commit = refl
    of_phase After = refl
