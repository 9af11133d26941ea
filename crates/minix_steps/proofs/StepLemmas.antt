-- What a step leaves, and how steps go on.
use Rattle.std.proofs.Common.{◌≡◌, ◌⊎◌, ◌<◌, ◌≤◌, ◌+◌, ◌*◌, ℕ, List, Option, Some, None, Result, refl, sym, ◌∙◌, subst, inl, inr, ⊎_elim}
use Rattle.std.proofs.Math.Path.{subst₂}
use Rattle.disk_trait.specs.declared.disks.Disks.{Ghosts}
use Rattle.disk_trait.specs.Past.{Image, Past}
use Rattle.disk_trait.specs.Moments.{IsTold, now, begun, MayLeave, LeftSince, LeftOrWritten, LeavesOnly, IsQuiet}
use Rattle.disk_trait.specs.Calls.{GoesOn}
use Rattle.disk_trait.proofs.MomentLemmas.{at_now, left_told, leaves_none, leaves_weaker, leaves_join, ok_or_err}
use Rattle.disk_trait.proofs.CallLemmas.{goes_on_join}
use Rattle.lilo_model.specs.MinixParts as model
use Rattle.lilo_model.specs.MinixNames.{IsSound}
use Rattle.minix_change_laws.specs.Beside.{Harmless, Beside, SoundAsIn, IsUnused, IsUnnamed}
use Rattle.minix_change_laws.proofs.Beside.{beside_law, named_law, same_law, join_law, write_law}
use Rattle.minix_layout.specs.View.{super_view}
use Rattle.minix_layout.specs.declared.superblock.Super.{Super}
use Rattle.disk_trait.specs.declared.disks.Span.{Span}
use Rattle.minix_zones.specs.View.{span_view}
use Rattle.minix_zones.specs.Volume.{volume_view, past_of, faults_of, KeepsVolume, SameVolume, WritesSector, Syncs}
use Rattle.minix_zones.proofs.WriteLemmas.{goes_on_unchanged, keeps_join, keeps_same}
use Rattle.minix_zones.specs.declared.volume.Volume.{Volume}
use Rattle.minix_steps.specs.Steps.{Within, IsReady, IsUnusedZone, IsUnnamedInode, Steps}

-- ---- where an image is left, the past is known

since_told : (past : Option Past) (t : ℕ) (c : Image) → LeftSince past t c → IsTold past
unfolding LeftSince IsTold
since_told None t c left = left
since_told (Some past) t c left = tt

-- a run leaves only what has a fact that follows where the past is known
pub leaves_told : (old new : Option Past) (P Q : Image → Type 0) → LeavesOnly old new P → (IsTold new → (c : Image) → P c → Q c) → LeavesOnly old new Q
leaves_told old new P Q run weaker = record {
  later = run.later;
  each = λ c left. weaker (since_told new _ c left) c (run.each c left);
  before = λ t c le left. ⊎_elim (λ before. inl before) (λ since. inr (weaker (since_told new t c left) c since)) (run.before t c le left);
}

-- ---- a volume that is kept

pub same_view : {D : Type 0} {disks : Ghosts D} (old new : Volume D disks) → KeepsVolume old new → volume_view new ≡ volume_view old
same_view old new kept =
    let P : Span → Super → Type 0 = λ span layout. record { span = span_view span; layout = super_view layout } ≡ volume_view old in
    subst₂ P (sym kept.same_span) (sym kept.same_layout) refl

-- ---- one sector with harmless bytes

module _ (view : model.Volume) (old : Option Past) (sector : ℕ) (bytes : List ℕ)
    (sound : IsTold old → IsSound view (begun old)) (within : Within view old)
    (inside : sector < 2 * view.layout.zones) (harmless : IsTold old → Harmless view (begun old) sector bytes) where
  beside_written : (c : Image) → LeftOrWritten old view.span.disk (view.span.start + sector) bytes c → Beside view (begun old) c
  beside_written c left =
      let told : IsTold old = left_told old left.0 left.1 in
      let before : Beside view (begun old) left.0 = within left.0 left.1 in
      let P : Image → Type 0 = Beside view (begun old) in
      ⊎_elim
      (λ same. subst P (sym same) before)
      (λ written. subst P (sym written) (write_law view (begun old) left.0 sector bytes (sound told) before inside (harmless told)))
      left.2

-- what makes a step of calls on the disks
module _ {D : Type 0} {disks : Ghosts D} (old new : Volume D disks) (ready : IsReady old) (goes_on : GoesOn disks old.disks.now new.disks.now)
    (run : LeavesOnly (past_of old) (past_of new) (Beside (volume_view old) (begun (past_of old))))
    (begun_beside : IsTold (past_of old) → Beside (volume_view old) (begun (past_of old)) (begun (past_of new)))
    (after : (c : Image) → MayLeave (past_of new) c → Beside (volume_view old) (begun (past_of new)) c) (kept : KeepsVolume old new) where
  now_ready : IsReady new
  now_ready = record {
    sound = λ is.
        let before : IsTold (past_of old) = goes_on.told_before is in
        let P : model.Volume → Type 0 = λ view. IsSound view (begun (past_of new)) in
        subst P (sym (same_view old new kept)) (beside_law (volume_view old) (begun (past_of old)) (begun (past_of new)) (ready.sound before) (begun_beside before)).sound;
    within = λ c left.
        let P : model.Volume → Type 0 = λ view. Beside view (begun (past_of new)) c in
        subst P (sym (same_view old new kept)) (after c left);
  }

  still_unused : (zone : ℕ) → IsUnusedZone old zone → IsUnusedZone new zone
  still_unused zone unused = record {
    unused = λ is.
        let told : IsTold (past_of old) = goes_on.told_before is in
        let named = named_law (volume_view old) (begun (past_of old)) (begun (past_of new)) (ready.sound told) (begun_beside told) in
        let P : model.Volume → Type 0 = λ view. IsUnused view (begun (past_of new)) zone in
        subst P (sym (same_view old new kept)) (λ number at refers. unused.unused told number at ((named.refers number at zone).0 refers));
  }

  still_unnamed : (number : ℕ) → IsUnnamedInode old number → IsUnnamedInode new number
  still_unnamed number unnamed = record {
    unnamed = λ is.
        let told : IsTold (past_of old) = goes_on.told_before is in
        let named = named_law (volume_view old) (begun (past_of old)) (begun (past_of new)) (ready.sound told) (begun_beside told) in
        let P : model.Volume → Type 0 = λ view. IsUnnamed view (begun (past_of new)) number in
        subst P (sym (same_view old new kept)) (λ has_name. unnamed.unnamed told ((named.named number).0 has_name));
  }

  pub made_step : Steps old new
  made_step = record {
    any_moment = run;
    names = leaves_told (past_of old) (past_of new) (Beside (volume_view old) (begun (past_of old))) (SoundAsIn (volume_view old) (begun (past_of old))) run
        (λ is c beside. beside_law (volume_view old) (begun (past_of old)) c (ready.sound (goes_on.told_before is)) beside);
    beside = begun_beside;
    sound = λ is. beside_law (volume_view old) (begun (past_of old)) (begun (past_of new)) (ready.sound is) (begun_beside is);
    ready = now_ready;
    unused = still_unused;
    unnamed = still_unnamed;
    goes_on = goes_on;
    kept = kept;
  }

-- a write of one sector with harmless bytes is a step
module _ {D E : Type 0} {disks : Ghosts D} (old new : Volume D disks) (sector : ℕ) (bytes : List ℕ) (error : E) (result : Result (Unit {0}) E) (ready : IsReady old)
    (inside : sector < 2 * old.layout.zones)
    (harmless : IsTold (past_of old) → Harmless (volume_view old) (begun (past_of old)) sector bytes)
    (call : WritesSector old new sector bytes error result) where
  beside_left : (c : Image) → LeftOrWritten (past_of old) old.span.disk (old.span.start + sector) bytes c → Beside (volume_view old) (begun (past_of old)) c
  beside_left = beside_written (volume_view old) (past_of old) sector bytes ready.sound ready.within inside harmless

  pub write_step : Steps old new
  write_step = made_step old new ready call.writes.goes_on
      (leaves_weaker (past_of old) (past_of new) (LeftOrWritten (past_of old) old.span.disk (old.span.start + sector) bytes) (Beside (volume_view old) (begun (past_of old))) call.writes.any_moment beside_left)
      (λ is.
      let P : Image → Type 0 = Beside (volume_view old) (begun (past_of old)) in
      subst P (sym call.same_begun) (same_law (volume_view old) (begun (past_of old)) (ready.sound is)))
      (λ c may.
      let P : Image → Type 0 = λ image. Beside (volume_view old) image c in
      subst P (sym call.same_begun) (beside_left c (call.writes.left c may)))
      call.kept

-- no call was made
pub no_step : {D : Type 0} {disks : Ghosts D} (old new : Volume D disks) → IsReady old → SameVolume old new → faults_of old ≤ faults_of new → Steps old new
no_step old new ready same later =
    let past : past_of new ≡ past_of old = same.same_disks.same_past in
    let B : Image → Type 0 = Beside (volume_view old) (begun (past_of old)) in
    made_step old new ready (goes_on_unchanged old new same later)
    (let P : Option Past → Type 0 = λ p. LeavesOnly (past_of old) p B in subst P (sym past) (leaves_none (past_of old) B ready.within))
    (λ is. let P : Option Past → Type 0 = λ p. Beside (volume_view old) (begun (past_of old)) (begun p) in
    subst P (sym past) (same_law (volume_view old) (begun (past_of old)) (ready.sound is)))
    (let P : Option Past → Type 0 = λ p. (c : Image) → MayLeave p c → Beside (volume_view old) (begun p) c in subst P (sym past) ready.within)
    (keeps_same old new same)

-- ---- what disks hold now is beside what they held at the last flush

pub now_beside : {D : Type 0} {disks : Ghosts D} (volume : Volume D disks) → IsReady volume → IsTold (past_of volume)
    → Beside (volume_view volume) (begun (past_of volume)) (now (past_of volume))
now_beside volume ready told = ready.within (now (past_of volume)) (at_now (past_of volume) told)

-- a flush is a step
module _ {D E : Type 0} {disks : Ghosts D} (old new : Volume D disks) (error : E) (result : Result (Unit {0}) E) (ready : IsReady old)
    (call : Syncs old new error result) where
  -- what is held at the last flush is what the disks hold, or what was held before
  begun_by : (begun (past_of new) ≡ now (past_of old)) ⊎ (past_of new ≡ past_of old) → IsTold (past_of old) → Beside (volume_view old) (begun (past_of old)) (begun (past_of new))
  begun_by (inl is) before =
      let P : Image → Type 0 = Beside (volume_view old) (begun (past_of old)) in
      subst P (sym is) (now_beside old ready before)
  begun_by (inr same) before =
      let P : Option Past → Type 0 = λ p. Beside (volume_view old) (begun (past_of old)) (begun p) in
      subst P (sym same) (same_law (volume_view old) (begun (past_of old)) (ready.sound before))

  flushed_begun : IsTold (past_of old) → Beside (volume_view old) (begun (past_of old)) (begun (past_of new))
  flushed_begun = begun_by (ok_or_err result (begun (past_of new) ≡ now (past_of old)) (past_of new ≡ past_of old) call.flushes.durable call.flushes.failed)

  after_by : (begun (past_of new) ≡ now (past_of old)) ⊎ (past_of new ≡ past_of old) → IsQuiet (past_of new) ⊎ (past_of new ≡ past_of old)
      → (c : Image) → MayLeave (past_of new) c → Beside (volume_view old) (begun (past_of new)) c
  after_by (inr same) calm c may =
      let P : Option Past → Type 0 = λ p. MayLeave p c → Beside (volume_view old) (begun p) c in
      subst P (sym same) (ready.within c) may
  after_by (inl is) (inr same) c may =
      let P : Option Past → Type 0 = λ p. MayLeave p c → Beside (volume_view old) (begun p) c in
      subst P (sym same) (ready.within c) may
  after_by (inl is) (inl calm) c may =
      let before : IsTold (past_of old) = left_told (past_of old) c (call.flushes.left c may) in
      let held : c ≡ begun (past_of new) = calm c may ∙ (call.flushes.same_now ∙ sym is) in
      let P : Image → Type 0 = Beside (volume_view old) (begun (past_of new)) in
      subst P (sym held) (same_law (volume_view old) (begun (past_of new))
      (beside_law (volume_view old) (begun (past_of old)) (begun (past_of new)) (ready.sound before) (flushed_begun before)).sound)

  pub flush_step : Steps old new
  flush_step = made_step old new ready call.flushes.goes_on
      (leaves_weaker (past_of old) (past_of new) (MayLeave (past_of old)) (Beside (volume_view old) (begun (past_of old))) call.flushes.any_moment ready.within)
      flushed_begun
      (after_by (ok_or_err result (begun (past_of new) ≡ now (past_of old)) (past_of new ≡ past_of old) call.flushes.durable call.flushes.failed)
      (ok_or_err result (IsQuiet (past_of new)) (past_of new ≡ past_of old) call.flushes.quiet call.flushes.failed))
      call.kept

  pub flush_sound : IsTold (past_of old) → SoundAsIn (volume_view old) (begun (past_of old)) (now (past_of new))
  flush_sound before =
      let P : Image → Type 0 = SoundAsIn (volume_view old) (begun (past_of old)) in
      subst P (sym call.flushes.same_now) (beside_law (volume_view old) (begun (past_of old)) (now (past_of old)) (ready.sound before) (now_beside old ready before))

-- ---- steps in a row

module _ {D : Type 0} {disks : Ghosts D} (old new : Volume D disks) (ready : IsReady old) (steps : Steps old new) where
  -- what was beside the later flush was beside the earlier one
  pub beside_before : IsTold (past_of old) → (c : Image) → Beside (volume_view new) (begun (past_of new)) c → Beside (volume_view old) (begun (past_of old)) c
  beside_before told c beside =
      let P : model.Volume → Type 0 = λ view. Beside view (begun (past_of new)) c in
      join_law (volume_view old) (begun (past_of old)) (begun (past_of new)) c (ready.sound told) (steps.beside told) (subst P (same_view old new steps.kept) beside)

pub steps_join : {D : Type 0} {disks : Ghosts D} (old mid new : Volume D disks) → IsReady old → Steps old mid → Steps mid new → Steps old new
steps_join {disks} old mid new ready first next =
    let B : Image → Type 0 = Beside (volume_view old) (begun (past_of old)) in
    let M : Image → Type 0 = Beside (volume_view mid) (begun (past_of mid)) in
    let view : volume_view mid ≡ volume_view old = same_view old mid first.kept in
    made_step old new ready
    (goes_on_join disks old.disks.now mid.disks.now new.disks.now first.goes_on next.goes_on)
    (leaves_join (past_of old) (past_of mid) (past_of new) B first.any_moment
    (leaves_told (past_of mid) (past_of new) M B next.any_moment (λ is. beside_before old mid ready first (first.goes_on.told_before (next.goes_on.told_before is)))))
    (λ told. beside_before old mid ready first told (begun (past_of new)) (next.beside (first.goes_on.told told)))
    (λ c may.
    let P : model.Volume → Type 0 = λ v. Beside v (begun (past_of new)) c in
    subst P (same_view mid new next.kept ∙ view) (next.ready.within c may))
    (keeps_join old mid new first.kept next.kept)

-- a step after a call that changed nothing
pub after_step : {D : Type 0} {disks : Ghosts D} (old mid new : Volume D disks) → IsReady old → SameVolume old mid → faults_of old ≤ faults_of mid → Steps mid new → Steps old new
after_step old mid new ready same later next = steps_join old mid new ready (no_step old mid ready same later) next
