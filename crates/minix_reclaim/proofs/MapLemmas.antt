-- One sector of a bitmap after the other.
use Rattle.std.proofs.Common.{◌≡◌, ◌≤◌, ◌<◌, ◌+◌, ◌-◌, ◌*◌, ◌/◌, ◌&&◌, ◌⊎◌, ℕ, Bool, false, not, List, length, Result, Ok, Err, refl, sym, ◌∙◌, ap, subst, arith, inl, inr, length-append}
use Rattle.std.proofs.lemmas.Bool.{cases_lt}
use Rattle.disk_trait.specs.declared.disks.Disks.{Ghosts}
use Rattle.disk_trait.specs.declared.disks.Span.{Span}
use Rattle.disk_trait.specs.Past.{Image}
use Rattle.disk_trait.specs.Moments.{IsTold, now, MayLeave, LeavesOnly}
use Rattle.disk_trait.specs.NotWritten.{IsOther, NotWritten}
use Rattle.disk_trait.specs.Range.{IsOutside}
use Rattle.disk_trait.proofs.CallLemmas.{goes_on_join}
use Rattle.disk_trait.proofs.LawLemmas.{end_of_run_law}
use Rattle.disk_trait.proofs.MomentLemmas.{leaves_join}
use Rattle.disk_trait.proofs.NotWrittenLemmas.{not_written_none, not_written_join, not_written_stays}
use Rattle.lilo_model.specs.MinixParts as model
use Rattle.lilo_model.specs.MinixParts.{sector_of, bit}
use Rattle.minix_steps.specs.Free.{free_from}
use Rattle.minix_steps.proofs.RangeLemmas.{free_split, same_free}
use Rattle.minix_steps.proofs.StepLemmas.{same_view}
use Rattle.minix_survey.specs.declared.findings.Findings.{Findings}
use Rattle.minix_zones.specs.Volume.{volume_view, past_of, SameVolume, KeepsVolume}
use Rattle.minix_zones.specs.declared.volume.Volume.{Volume}
use Rattle.minix_zones.specs.declared.zone_fault.ZoneFault.{ZoneFault}
use Rattle.minix_zones.specs.declared.zone_fault.ZoneFault.TheVariants.{Device}
use Rattle.minix_zones.proofs.WriteLemmas.{keeps_same, keeps_join, goes_on_unchanged, cause_after}
use Rattle.minix_reclaim.specs.declared.bitmap.Bitmap.{Bitmap}
use Rattle.minix_reclaim.specs.Bitmap.{is_used, IsNumberOf, sector_with, bit_with, marked, is_unused_on}
use Rattle.minix_reclaim.specs.Cleared.{HasCleared}
use Rattle.minix_reclaim.specs.Frees.{IsWasteUnused, ClearsWaste, bits_in, first_in, FreesSector, FreesMap}
use Rattle.minix_reclaim.proofs.FreesLemmas.{clears_same}

pub same_volume : {D : Type 0} {disks : Ghosts D} (volume : Volume D disks) → SameVolume volume volume
same_volume volume = record {
  same_disks = record { same_past = refl; same_size = refl; same_count = refl; same_geometry = refl };
  same_span = refl;
  same_layout = refl;
  same_reference = refl;
}

-- what is cleared by one call after another
pub clears_join : {D : Type 0} {disks : Ghosts D} (old mid new : Volume D disks) (image : Image) → KeepsVolume old mid
    → (IsTold (past_of old) → IsTold (past_of mid)) → ClearsWaste old mid image → ClearsWaste mid new image → ClearsWaste old new image
clears_join old mid new image kept goes first next =
    let P : Image → Type 0 = HasCleared (volume_view old) image in
    let view : volume_view mid ≡ volume_view old = same_view old mid kept in
    let Q : model.Volume → Type 0 = λ v. ((c : Image) → MayLeave (past_of mid) c → HasCleared v image c) → LeavesOnly (past_of mid) (past_of new) (HasCleared v image) in
    let R : model.Volume → Type 0 = λ v. IsTold (past_of mid) → HasCleared v image (now (past_of mid)) → HasCleared v image (now (past_of new)) in
    let moments = subst Q view next.any_moment in
    let done = subst R view next.after in
    record {
      any_moment = λ before.
          let one = first.any_moment before in
          leaves_join (past_of old) (past_of mid) (past_of new) P one (moments (end_of_run_law P (past_of old) (past_of mid) one));
      after = λ told before. done (goes told) (first.after told before);
    }

-- nothing was done yet
pub map_start : {D : Type 0} {disks : Ghosts D} (old : Volume D disks) (bitmap : Bitmap) (found : Findings) → FreesMap old old bitmap found 0 (Ok 0)
map_start old bitmap found = record {
  clears = λ image waste. clears_same old old (same_volume old) image;
  freed = λ told n number none unused. absurd (omega (arith, none));
  count = λ told. let none : bits_in bitmap 0 - 1 ≡ 0 = omega arith in rw none refl;
  few = omega arith;
  others = λ d s out. not_written_none (past_of old) d s;
  device = tt;
  goes_on = goes_on_unchanged old old (same_volume old) (omega arith);
  kept = keeps_same old old (same_volume old);
}

module _ {D : Type 0} {disks : Ghosts D} (old mid new : Volume D disks) (bitmap : Bitmap) (found : Findings) (index : ℕ) (freed : ℕ)
    (inside : bitmap.origin + 4096 * index < bitmap.end) (first : FreesMap old mid bitmap found index (Ok freed)) where
  view : volume_view mid ≡ volume_view old
  view = same_view old mid first.kept

  told-mid : IsTold (past_of old) → IsTold (past_of mid)
  told-mid told = first.goes_on.told told

  module _ (result : Result ℕ ZoneFault) (next : FreesSector mid new bitmap found index result) where
    clears : (image : Image) → IsWasteUnused (volume_view old) image bitmap found → ClearsWaste old new image
    clears image waste =
        let W : model.Volume → Type 0 = λ v. IsWasteUnused v image bitmap found in
        clears_join old mid new image first.kept told-mid (first.clears image waste) (next.clears image (subst W (sym view) waste))

    next-others : (d s : ℕ) → IsOther old.span.disk (old.span.start + (bitmap.sector + index)) d s → NotWritten (past_of mid) (past_of new) d s
    next-others d s other =
        let S : Span → Type 0 = λ span. IsOther span.disk (span.start + (bitmap.sector + index)) d s in
        next.others d s (subst S (sym first.kept.same_span) other)

    outside : (d s : ℕ) → IsOutside old.span.disk (old.span.start + bitmap.sector) (index + 1) d s → NotWritten (past_of old) (past_of new) d s
    outside d s out = not_written_join (past_of old) (past_of mid) (past_of new) d s (first.others d s (less out)) (next-others d s (not-it out))
      where
        less : IsOutside old.span.disk (old.span.start + bitmap.sector) (index + 1) d s → IsOutside old.span.disk (old.span.start + bitmap.sector) index d s
        less (inl apart) = inl apart
        less (inr (inl low)) = inr (inl low)
        less (inr (inr high)) = inr (inr (omega (arith, high)))

        not-it : IsOutside old.span.disk (old.span.start + bitmap.sector) (index + 1) d s → IsOther old.span.disk (old.span.start + (bitmap.sector + index)) d s
        not-it (inl apart) = inl apart
        not-it (inr (inl low)) = inr (λ e. omega (arith, low, e))
        not-it (inr (inr high)) = inr (λ e. omega (arith, high, e))

  pub map_failed : (fault : ZoneFault) (all : ℕ) → index + 1 ≤ all → FreesSector mid new bitmap found index (Err fault) → FreesMap old new bitmap found all (Err fault)
  map_failed fault all within next = record {
    clears = clears (Err fault) next;
    freed = λ told. tt;
    count = λ told. tt;
    few = tt;
    others = λ d s out. outside (Err fault) next d s (less d s out);
    device = cause_after {T = ℕ} old mid new Device (Err fault) first.goes_on.later next.device;
    goes_on = goes_on_join disks old.disks.now mid.disks.now new.disks.now first.goes_on next.goes_on;
    kept = keeps_join old mid new first.kept next.kept;
  }
    where
      less : (d s : ℕ) → IsOutside old.span.disk (old.span.start + bitmap.sector) all d s → IsOutside old.span.disk (old.span.start + bitmap.sector) (index + 1) d s
      less d s (inl apart) = inl apart
      less d s (inr (inl low)) = inr (inl low)
      less d s (inr (inr high)) = inr (inr (omega (arith, high, within)))

  module _ (more : ℕ) (next : FreesSector mid new bitmap found index (Ok more)) where
    -- the bits of the sectors before stay
    stays-clear : IsTold (past_of old) → (n : ℕ) → IsNumberOf bitmap n → (n - bitmap.origin) / 4096 < index
        → marked (volume_view old) (now (past_of new)) bitmap n ≡ marked (volume_view old) (now (past_of mid)) bitmap n
    stays-clear told n number low =
        let s : ℕ = old.span.start + sector_with bitmap n in
        let other : IsOther old.span.disk (old.span.start + (bitmap.sector + index)) old.span.disk s = inr (λ e. omega (arith, low, e)) in
        ap (λ (b : List ℕ). bit b (bit_with bitmap n)) (not_written_stays (past_of mid) (past_of new) old.span.disk s (next-others (Ok more) next old.span.disk s other)).0

    all-clear : IsTold (past_of old) → (n : ℕ) → IsNumberOf bitmap n → (n - bitmap.origin) / 4096 < index + 1 → is_used bitmap.of found n ≡ false
        → marked (volume_view old) (now (past_of new)) bitmap n ≡ false
    all-clear told n number low unused = by (cases_lt ((n - bitmap.origin) / 4096) index)
      where
        by : ((n - bitmap.origin) / 4096 < index) ⊎ (index ≤ (n - bitmap.origin) / 4096) → marked (volume_view old) (now (past_of new)) bitmap n ≡ false
        by (inl before) = stays-clear told n number before ∙ first.freed told n number before unused
        by (inr here) =
            let M : model.Volume → Type 0 = λ v. marked v (now (past_of new)) bitmap n ≡ false in
            subst M view (next.freed (told-mid told) n number (omega (arith, low, here)) unused)

    -- the bits of this sector were as at first
    as-before : (n : ℕ) → (n - bitmap.origin) / 4096 ≡ index → is_unused_on (volume_view mid) (now (past_of mid)) bitmap found n ≡ is_unused_on (volume_view old) (now (past_of old)) bitmap found n
    as-before n here =
        let s : ℕ = old.span.start + sector_with bitmap n in
        let out : IsOutside old.span.disk (old.span.start + bitmap.sector) index old.span.disk s = inr (inr (omega (arith, here))) in
        ap (λ (v : model.Volume). is_unused_on v (now (past_of mid)) bitmap found n) view
        ∙ ap (λ (b : List ℕ). bit b (bit_with bitmap n) && not (is_used bitmap.of found n)) (not_written_stays (past_of old) (past_of mid) old.span.disk s (first.others old.span.disk s out)).0

    abbrev Unused : ℕ → Bool
    Unused = is_unused_on (volume_view old) (now (past_of old)) bitmap found

    both-counted : IsTold (past_of old) → freed + more ≡ length (free_from Unused (bitmap.origin + 1) (bits_in bitmap (index + 1) - 1))
    both-counted told =
        let b : ℕ = bitmap.origin + first_in index in
        let n : ℕ = bits_in bitmap (index + 1) - first_in index in
        let same = same_free (is_unused_on (volume_view mid) (now (past_of mid)) bitmap found) Unused b n (λ m low high. as-before m (omega (arith, low, high))) in
        let one = first.count told in
        let two = next.count (told-mid told) ∙ ap length same in
        let split = free_split Unused (bitmap.origin + 1) (bits_in bitmap index - 1) n (bits_in bitmap (index + 1) - 1) b (omega (arith, inside)) (omega (arith, inside)) in
        let sum = length-append (free_from Unused (bitmap.origin + 1) (bits_in bitmap index - 1)) (free_from Unused b n) in
        ap (λ k. k + more) one ∙ ap (λ k. length (free_from Unused (bitmap.origin + 1) (bits_in bitmap index - 1)) + k) two ∙ sym (ap length split ∙ sum)

    pub map_next : FreesMap old new bitmap found (index + 1) (Ok (freed + more))
    map_next = record {
      clears = clears (Ok more) next;
      freed = all-clear;
      count = both-counted;
      few = omega (arith, first.few, next.few, inside);
      others = outside (Ok more) next;
      device = tt;
      goes_on = goes_on_join disks old.disks.now mid.disks.now new.disks.now first.goes_on next.goes_on;
      kept = keeps_join old mid new first.kept next.kept;
    }
