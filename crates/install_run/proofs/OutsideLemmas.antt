-- What is written outside of the volume, by how far an installation came.
use Rattle.std.proofs.Common.{◌≡◌, ◌∙◌, ℕ, Option, Result, Ok, Err, refl, sym, ap, subst, inl, inr}
use Rattle.disk_trait.specs.declared.disks.Disks.{Ghosts}
use Rattle.disk_trait.specs.declared.disks.DiskFault.{DiskFault}
use Rattle.disk_trait.specs.declared.disks.DiskFault.TheVariants.{Failed}
use Rattle.disk_trait.specs.declared.disks.Phase.TheVariants.{Before, Commit, After}
use Rattle.disk_trait.specs.declared.disks.Span as spans
use Rattle.disk_trait.specs.Moments.{IsTold}
use Rattle.disk_trait.specs.NotWritten.{IsOther, NotWritten}
use Rattle.disk_trait.specs.Past.{Past}
use Rattle.disk_trait.proofs.NotWrittenLemmas.{not_written_join}
use Rattle.lilo_model.specs.Disks.{Span}
use Rattle.lilo_model.specs.MinixParts as model
use Rattle.lilo_conf.specs.declared.config.Config as configs
use Rattle.minix_choice.specs.declared.write_fault.WriteFault.{WriteFault}
use Rattle.minix_zones.specs.View.{span_view}
use Rattle.minix_zones.specs.Volume.{volume_view, past_of, KeepsVolume}
use Rattle.minix_zones.specs.declared.volume.Volume.{Volume}
use Rattle.sector_address.specs.Machine.{machine_of}
use Rattle.stream_trait.specs.Shows.{SinkState}
use Rattle.install_laws.specs.Writes.{IsApartSector}
use Rattle.install_order.specs.Commits.{Commits}
use Rattle.install_order.specs.Stageable.{path_made}
use Rattle.install_order.specs.States.{HaltsStaging, IsCommitted, MayBeTidied, StagesFrom, StopsStaging, TidiesFrom, is_forced}
use Rattle.install_order.specs.declared.committed.Committed.{Committed}
use Rattle.install_order.specs.declared.fault.InstallFault.TheVariants as faults
use Rattle.install_order.specs.declared.halt.Halt.{Halt}
use Rattle.install_order.specs.declared.planned.Planned.{Planned}
use Rattle.install_order.specs.declared.staged.Staged.{Staged}
use Rattle.install_join_laws.specs.Steps.{HasStaged}
use Rattle.install_run.specs.Keeps.{WritesInside, WritesNoApart}
use Rattle.install_run.specs.Steps.{Finishes, FinishedEarly, FinishedWhole, HaltedCommit, HaltedStaging, HaltedTidying, IsHalted, IsPrepared, IsReadyToStage}
use Rattle.install_run.specs.Texts.{device_status, fault_status}
use Rattle.install_run.proofs.CarriedLemmas.{tidies_some}

-- ---- since an earlier moment

pub apart_join : (volume : model.Volume) (old mid new : Option Past) → WritesNoApart volume old mid → WritesNoApart volume mid new → WritesNoApart volume old new
apart_join volume old mid new first next d s apart = not_written_join old mid new d s (first d s apart) (next d s apart)

inside-join : (volume : model.Volume) (span : Span) (old mid new : Option Past) (status : ℕ) → WritesNoApart volume old mid → WritesInside volume span mid new status
    → WritesInside volume span old new status
inside-join volume span old mid new status first next = record {
  before = λ early. apart_join volume old mid new first (next.before early);
  others = λ d s apart other. not_written_join old mid new d s (first d s apart) (next.others d s apart other);
}

-- ---- once it was planned

module _ {D : Type 0} {disks : Ghosts D} (planned : Planned D disks) (ready : IsReadyToStage planned) (told : IsTold (past_of planned.volume)) where
  abbrev View : model.Volume
  View = volume_view planned.volume

  abbrev S : Span
  S = span_view planned.boot

  staged-apart : (new : Volume D disks) (result : Result (Unit {0}) WriteFault)
      → StagesFrom planned.volume new (is_forced planned) planned.present planned.plan planned.room result → WritesNoApart View (past_of planned.volume) (past_of new)
  staged-apart new result from d s apart =
      let may = ready.ready.may told ready.settled in
      let stages = from.stages (machine_of disks planned.volume.disks.now) (path_made planned.room.backup may.names.backup) may.names.map (λ t. may.room) in
      let flushes = from.syncs.flushes in
      let view : volume_view from.flushed ≡ View = rw (from.syncs.kept.same_span, from.syncs.kept.same_layout) refl in
      not_written_join (past_of planned.volume) (past_of from.flushed) (past_of new) d s (flushes.untouched d s)
      (stages.apart (flushes.goes_on.told told) d s (subst (λ (v : model.Volume). IsApartSector v d s) (sym view) apart))

  pub halted_apart : (halt : Halt D disks) → HaltsStaging planned halt → WritesNoApart View (past_of planned.volume) (past_of halt.volume)
  halted_apart halt halts = by halts.stops
    where
      by : StopsStaging planned.volume (is_forced planned) planned.present planned.plan planned.room (record { volume = halt.volume; fault = halts.fault })
          → WritesNoApart View (past_of planned.volume) (past_of halt.volume)
      by (inl stopped) = λ d s apart. stopped.0.flushes.untouched d s
      by (inr from) = staged-apart halt.volume (Err halts.fault) from

  module _ (staged : Staged D disks) (stages : HasStaged planned staged) where
    pub was_apart : WritesNoApart View (past_of planned.volume) (past_of staged.volume)
    was_apart = staged-apart staged.volume (Ok tt) stages.stages.stages

    committed-others : (new : Volume D disks) (result : Result (Unit {0}) DiskFault) → Commits staged.volume new staged.boot staged.sector result → (d s : ℕ) → IsApartSector View d s
        → IsOther S.disk S.start d s → NotWritten (past_of planned.volume) (past_of new) d s
    committed-others new result commits d s apart other =
        not_written_join (past_of planned.volume) (past_of staged.volume) (past_of new) d s (was_apart d s apart)
        (commits.others d s (subst (λ (b : spans.Span). IsOther b.disk b.start d s) (sym stages.stages.boot_is) other))

    tidied-others : (new : Volume D disks) (committed : Committed D disks) (result : Result (Unit {0}) WriteFault) → IsCommitted staged committed → MayBeTidied committed
        → TidiesFrom committed new result → (d s : ℕ) → IsApartSector View d s → IsOther S.disk S.start d s → NotWritten (past_of planned.volume) (past_of new) d s
    tidied-others new committed result commits may tidies d s apart other =
        let from = stages.stages.stages in
        let commit = commits.commits in
        let view : volume_view committed.volume ≡ View = rw (commit.kept.same_span, commit.kept.same_layout, from.kept.same_span, from.kept.same_layout) refl in
        not_written_join (past_of planned.volume) (past_of committed.volume) (past_of new) d s (committed-others committed.volume (Ok tt) commit d s apart other)
        ((tidies_some committed may new result tidies).1.apart (commit.goes_on.told (from.goes_on.told told)) d s (subst (λ (v : model.Volume). IsApartSector v d s) (sym view) apart))

  halted-inside : (status : ℕ) (halt : Halt D disks) → IsHalted planned halt → status ≡ device_status halt.phase
      → WritesInside View S (past_of planned.volume) (past_of halt.volume) status
  halted-inside status halt (HaltedStaging phase halts) is = record {
    before = λ early. halted_apart halt halts;
    others = λ d s apart other. halted_apart halt halts d s apart;
  }
  halted-inside status halt (HaltedCommit phase staged stages halts) is =
      let nine : status ≡ 9 = is ∙ ap device_status phase in
      record {
        before = λ early. absurd (early.not_committing nine);
        others = committed-others staged stages halt.volume (Err Failed) halts.commits;
      }
  halted-inside status halt (HaltedTidying phase staged stages committed commits may halts) is =
      let ten : status ≡ 10 = is ∙ ap device_status phase in
      record {
        before = λ early. absurd (early.not_done (inr ten));
        others = tidied-others staged stages halt.volume committed (Err halts.fault) commits may halts.tidies;
      }

  finished-inside : (status : ℕ) (ended : D) (old new : SinkState) → Finishes planned status ended old new
      → WritesInside View S (past_of planned.volume) (disks.past ended) status
  finished-inside status ended old new (FinishedWhole tidied carried same zero rest) =
      subst (λ (d : D). WritesInside View S (past_of planned.volume) (disks.past d) status) same
      (record {
        before = λ early. absurd (early.not_done (inl zero));
        others = tidied-others carried.staged carried.stages tidied.volume carried.committed (Ok tt) carried.commits carried.may carried.tidies;
      })
  finished-inside status ended old new (FinishedEarly halt halted same device status-is said) =
      subst (λ (d : D). WritesInside View S (past_of planned.volume) (disks.past d) status) same
      (halted-inside status halt halted (status-is ∙ ap (λ fault. fault_status fault halt.phase) (device told)))

-- since its entry
pub finished_inside : {D : Type 0} {disks : Ghosts D} → (entry : Volume D disks) (config : configs.Config) (boot : spans.Span) (time : ℕ) (planned : Planned D disks)
    → IsPrepared entry config boot time planned → IsReadyToStage planned → IsTold (past_of planned.volume) → WritesNoApart (volume_view entry) (past_of entry) (past_of planned.volume)
    → (status : ℕ) (ended : D) (old new : SinkState) → Finishes planned status ended old new
    → WritesInside (volume_view entry) (span_view boot) (past_of entry) (disks.past ended) status
finished_inside {D} {disks} entry config boot time planned prepared ready told before status ended old new finishes =
    let kept = prepared.kept in
    let view : volume_view planned.volume ≡ volume_view entry = rw (kept.same_span, kept.same_layout) refl in
    inside-join (volume_view entry) (span_view boot) (past_of entry) (past_of planned.volume) (disks.past ended) status before
    (subst (λ (v : model.Volume). WritesInside v (span_view boot) (past_of planned.volume) (disks.past ended) status) view
    (subst (λ (b : spans.Span). WritesInside (volume_view planned.volume) (span_view b) (past_of planned.volume) (disks.past ended) status) prepared.boot_is
    (finished-inside planned ready told status ended old new finishes)))
