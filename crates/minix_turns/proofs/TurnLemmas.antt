-- A written sector and a flush are a turn.
use Rattle.std.proofs.Common.{◌≡◌, ◌⊎◌, ◌≤◌, ◌+◌, ℕ, List, Result, Ok, Err, OnOk, sym, ◌∙◌, ap, subst, inl, inr, ⊎_elim}
use Rattle.disk_trait.specs.declared.disks.Disks.{Ghosts}
use Rattle.disk_trait.specs.declared.disks.Span.{Span}
use Rattle.disk_trait.specs.Past.{Image, with_sector}
use Rattle.disk_trait.specs.Moments.{IsTold, now, IsQuiet, LeftOrWritten, LeavesOnly}
use Rattle.disk_trait.specs.Calls.{GoesOn}
use Rattle.disk_trait.specs.NotWritten.{IsOther, NotWritten}
use Rattle.disk_trait.proofs.MomentLemmas.{leaves_none, leaves_weaker, leaves_join, on_ok}
use Rattle.disk_trait.proofs.CallLemmas.{goes_on_join}
use Rattle.disk_trait.proofs.NotWrittenLemmas.{not_written_none, not_written_join}
use Rattle.minix_zones.specs.Volume.{volume_view, past_of, faults_of, SameVolume, HasDeviceCause, WritesSector, Syncs}
use Rattle.minix_zones.specs.declared.volume.Volume.{Volume}
use Rattle.minix_zones.proofs.WriteLemmas.{keeps_same, keeps_join, goes_on_unchanged, cause_after}
use Rattle.minix_steps.specs.Written.{with_sector_of}
use Rattle.minix_steps.proofs.StepLemmas.{leaves_told, same_view}
use Rattle.minix_turns.specs.Turns.{WithOrWithout, Turns}

module _ {D : Type 0} {disks : Ghosts D} (old : Volume D disks) (sector : ℕ) (bytes : List ℕ) (quiet : IsQuiet (past_of old)) where
  abbrev Choice : Image → Type 0
  Choice = WithOrWithout (volume_view old) (now (past_of old)) sector bytes

  -- from a quiet moment a write leaves what was held, or that with the sector
  one-or-other : (c : Image) → LeftOrWritten (past_of old) old.span.disk (old.span.start + sector) bytes c → Choice c
  one-or-other c left =
      let was : left.0 ≡ now (past_of old) = quiet left.0 left.1 in
      ⊎_elim
      (λ same. inl (same ∙ was))
      (λ written. inr (written ∙ ap (λ (i : Image). with_sector i old.span.disk (old.span.start + sector) bytes) was))
      left.2

  pub turn_refused : {E : Type 0} (new : Volume D disks) (error fault : E) → WritesSector old new sector bytes error (Err fault) → Turns old new sector bytes error (Err fault)
  turn_refused new error fault call = record {
    any_moment = leaves_weaker (past_of old) (past_of new) _ Choice call.writes.any_moment one-or-other;
    written = λ told. tt;
    made = λ told. call.writes.made;
    quiet = tt;
    durable = tt;
    others = call.writes.others;
    device = call.device;
    goes_on = call.writes.goes_on;
    kept = call.kept;
  }

  module _ {E : Type 0} (mid new : Volume D disks) (error : E) (call : WritesSector old mid sector bytes error (Ok tt)) where
    both : (result : Result (Unit {0}) E) → Syncs mid new error result → LeavesOnly (past_of old) (past_of new) Choice
    both result flush =
        leaves_join (past_of old) (past_of mid) (past_of new) Choice
        (leaves_weaker (past_of old) (past_of mid) _ Choice call.writes.any_moment one-or-other)
        (leaves_weaker (past_of mid) (past_of new) _ Choice flush.flushes.any_moment (λ c left. one-or-other c (call.writes.left c left)))

    made : (result : Result (Unit {0}) E) → Syncs mid new error result → (now (past_of new) ≡ with_sector (now (past_of old)) old.span.disk (old.span.start + sector) bytes) ⊎ (now (past_of new) ≡ now (past_of old))
    made result flush = ⊎_elim (λ written. inl (flush.flushes.same_now ∙ written)) (λ same. inr (flush.flushes.same_now ∙ same)) call.writes.made

    pub turn_done : (result : Result (Unit {0}) E) → Syncs mid new error result → Turns old new sector bytes error result
    turn_done (Ok tt) flush = record {
      any_moment = both (Ok tt) flush;
      written = λ told. flush.flushes.same_now ∙ call.writes.written told;
      made = λ told. made (Ok tt) flush;
      quiet = flush.flushes.quiet;
      durable = flush.flushes.durable ∙ sym flush.flushes.same_now;
      others = λ d s other. not_written_join (past_of old) (past_of mid) (past_of new) d s (call.writes.others d s other) (flush.flushes.untouched d s);
      device = tt;
      goes_on = goes_on_join disks old.disks.now mid.disks.now new.disks.now call.writes.goes_on flush.flushes.goes_on;
      kept = keeps_join old mid new call.kept flush.kept;
    }
    turn_done (Err fault) flush = record {
      any_moment = both (Err fault) flush;
      written = λ told. tt;
      made = λ told. made (Err fault) flush;
      quiet = tt;
      durable = tt;
      others = λ d s other. not_written_join (past_of old) (past_of mid) (past_of new) d s (call.writes.others d s other) (flush.flushes.untouched d s);
      device = cause_after {T = Unit {0}} old mid new error (Err fault) call.writes.goes_on.later flush.device;
      goes_on = goes_on_join disks old.disks.now mid.disks.now new.disks.now call.writes.goes_on flush.flushes.goes_on;
      kept = keeps_join old mid new call.kept flush.kept;
    }

-- ---- after a call that only read

module _ {D : Type 0} {disks : Ghosts D} (old mid : Volume D disks) (same : SameVolume old mid) (later : faults_of old ≤ faults_of mid) where
  past-same : past_of mid ≡ past_of old
  past-same = same.same_disks.same_past

  pub quiet_still : IsQuiet (past_of old) → IsQuiet (past_of mid)
  quiet_still quiet = subst IsQuiet (sym past-same) quiet

  -- the call was refused
  pub turn_unread : {E : Type 0} (sector : ℕ) (bytes : List ℕ) (error : E) (result : Result (Unit {0}) E) → ((P : Type 0) → OnOk result P) → IsQuiet (past_of old) → HasDeviceCause old mid error result → Turns old mid sector bytes error result
  turn_unread sector bytes error (Ok done) refused quiet device = absurd (refused ⊥)
  turn_unread sector bytes error (Err fault) refused quiet device = record {
    any_moment =
        let P : Image → Type 0 = WithOrWithout (volume_view old) (now (past_of old)) sector bytes in
        subst (λ past. LeavesOnly (past_of old) past P) (sym past-same) (leaves_none (past_of old) P (λ c left. inl (quiet c left)));
    written = λ told. tt;
    made = λ told. inr (ap now past-same);
    quiet = tt;
    durable = tt;
    others = λ d s other. subst (λ past. NotWritten (past_of old) past d s) (sym past-same) (not_written_none (past_of old) d s);
    device = device;
    goes_on = goes_on_unchanged old mid same later;
    kept = keeps_same old mid same;
  }

  -- and its bytes were turned
  module _ {E : Type 0} (new : Volume D disks) (sector : ℕ) (from bytes : List ℕ) (error : E) (is : IsTold (past_of old) → from ≡ bytes) where
    view-same : volume_view mid ≡ volume_view old
    view-same = same_view old mid (keeps_same old mid same)

    with-same : IsTold (past_of old) → with_sector_of (volume_view mid) (now (past_of mid)) sector from ≡ with_sector_of (volume_view old) (now (past_of old)) sector bytes
    with-same told =
        ap (λ v. with_sector_of v (now (past_of mid)) sector from) view-same
        ∙ (ap (λ p. with_sector_of (volume_view old) (now p) sector from) past-same ∙ ap (with_sector_of (volume_view old) (now (past_of old)) sector) (is told))

    told-old : GoesOn disks mid.disks.now new.disks.now → IsTold (past_of new) → IsTold (past_of old)
    told-old goes_on told = subst IsTold past-same (goes_on.told_before told)

    told-mid : IsTold (past_of old) → IsTold (past_of mid)
    told-mid told = subst IsTold (sym past-same) told

    pub turn_after : (result : Result (Unit {0}) E) → Turns mid new sector from error result → Turns old new sector bytes error result
    turn_after result turns = record {
      any_moment =
          let Q : Image → Type 0 = WithOrWithout (volume_view old) (now (past_of old)) sector bytes in
          subst (λ past. LeavesOnly past (past_of new) Q) past-same
          (leaves_told (past_of mid) (past_of new) _ Q turns.any_moment (λ told c choice.
          ⊎_elim (λ without. inl (without ∙ ap now past-same)) (λ with'. inr (with' ∙ with-same (told-old turns.goes_on told))) choice));
      written = λ told. on_ok result _ _ (turns.written (told-mid told)) (λ now_is. now_is ∙ with-same told);
      made = λ told. ⊎_elim (λ with'. inl (with' ∙ with-same told)) (λ without. inr (without ∙ ap now past-same)) (turns.made (told-mid told));
      quiet = turns.quiet;
      durable = turns.durable;
      others = λ d s other.
          let P : Span → Type 0 = λ span. IsOther span.disk (span.start + sector) d s in
          subst (λ past. NotWritten past (past_of new) d s) past-same (turns.others d s (subst P (sym same.same_span) other));
      device = cause_after {T = Unit {0}} old mid new error result later turns.device;
      goes_on = goes_on_join disks old.disks.now mid.disks.now new.disks.now (goes_on_unchanged old mid same later) turns.goes_on;
      kept = keeps_join old mid new (keeps_same old mid same) turns.kept;
    }
