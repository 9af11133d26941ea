-- What is left once a survey's findings said what to free.
use Rattle.std.proofs.Common.{◌≡◌, ◌≤◌, ◌+◌, ◌-◌, ◌&&◌, ◌⊎◌, ℕ, false, not, List, length, Option, Some, None, Result, Ok, Err, IfOk, IfErr, refl, sym, ◌∙◌, ap, subst, arith, inl, inr}
use Rattle.std.specs.Prelude.{IsErr}
use Rattle.disk_trait.specs.declared.disks.Disks.{Ghosts}
use Rattle.disk_trait.specs.declared.disks.Span.{Span}
use Rattle.disk_trait.specs.Past.{Image, Past, Told}
use Rattle.disk_trait.specs.Moments.{IsTold, now, MayLeave, LeavesOnly, IsQuiet}
use Rattle.disk_trait.specs.Range.{IsOutside}
use Rattle.disk_trait.proofs.MomentLemmas.{leaves_weaker, leaves_none, told_now, told_or_not}
use Rattle.disk_trait.proofs.NotWrittenLemmas.{not_written_stays}
use Rattle.lilo_model.specs.Faults.{Rose}
use Rattle.lilo_model.specs.MinixNames.{IsSound}
use Rattle.lilo_model.specs.MinixParts as model
use Rattle.lilo_model.specs.MinixParts.{Parts, sector_of, bit, parts_of}
use Rattle.lilo_model.specs.MinixSurvey as refusals
use Rattle.lilo_model.specs.MinixSurvey.{Met, survey, survey_walk, surveyable}
use Rattle.ldisk_model.specs.Waste.{IsWasteZone, IsWasteInode, AreWaste, waste_zones, waste_inodes, IsReclaiming, IsReclaimed}
use Rattle.minix_sound_laws.proofs.Law.{has-numbers, image_law}
use Rattle.minix_steps.proofs.RangeLemmas.{same_free}
use Rattle.minix_steps.proofs.RegionLemmas.{laid_super}
use Rattle.minix_steps.proofs.StepLemmas.{same_view}
use Rattle.minix_survey.specs.declared.findings.Findings.{Findings}
use Rattle.minix_survey.specs.Findings.{AreFindings}
use Rattle.minix_survey.specs.Step.{OfVolume, Finds}
use Rattle.minix_zones.specs.Volume.{volume_view, past_of, faults_of}
use Rattle.minix_zones.specs.declared.volume.Volume.{Volume}
use Rattle.minix_reclaim.specs.declared.fault.ReclaimFault.{ReclaimFault}
use Rattle.minix_reclaim.specs.declared.fault.ReclaimFault.TheVariants.{Device}
use Rattle.minix_reclaim.specs.declared.waste.Freed.{Freed}
use Rattle.minix_reclaim.specs.Bitmap.{zone_bitmap, inode_bitmap, is_used, IsNumberOf, sector_with, bit_with, marked, is_unused_on}
use Rattle.minix_reclaim.specs.Cleared.{HasCleared}
use Rattle.minix_reclaim.specs.Frees.{IsWasteUnused, ClearsWaste, bits_in, sectors_of}
use Rattle.ldisk_model.specs.Laid.{IsLaid}
use Rattle.minix_reclaim.specs.Reclaim.{Answers, Reclaims, FreesAll, ReclaimsBy}
use Rattle.minix_reclaim.proofs.ClearedLemmas.{cleared_none, reclaiming_law}
use Rattle.minix_reclaim.proofs.UseLemmas.{zone_mark, inode_mark, zones_waste, inodes_waste, waste_zone_unused, waste_inode_unused, zones_counted, inodes_counted}
use Rattle.minix_reclaim.proofs.WasteLemmas.{waste_law}

-- ---- pasts that aren't known

untold-none : (past : Option Past) → (IsTold past → ⊥) → past ≡ None
unfolding IsTold
untold-none None none = refl
untold-none (Some past) none = absurd (none tt)

no-image : (P : Image → Type 0) → LeavesOnly None None P
unfolding MayLeave
no-image P = leaves_none None P (λ c left. absurd left)

leaves-untold : (old new : Option Past) (P : Image → Type 0) → (IsTold old → ⊥) → (IsTold new → ⊥) → LeavesOnly old new P
leaves-untold old new P one other = rw (untold-none old one, untold-none new other) (no-image P)

told-from : (past : Option Past) (P : Image → Type 0) → (IsTold past → P (now past)) → Told past P
unfolding IsTold now
told-from None P f = tt
told-from (Some past) P f = f tt

not-ok : {A F : Type 0} (given : Result A F) (value : A) → given ≡ Ok value → IsErr given → ⊥
not-ok (Ok other) value is err = cc
not-ok (Err fault) value is err = cc

-- ---- what was freed

module _ {D : Type 0} {disks : Ghosts D} (old new : Volume D disks) (found : Findings) (result : Result Freed ReclaimFault)
    (by : ReclaimsBy old new found result) (facts : OfVolume old (Finds (Ok found))) where
  abbrev V : model.Volume
  V = volume_view old

  abbrev I : Image
  I = now (past_of old)

  abbrev Old : Parts
  Old = parts_of V I

  abbrev All' : List Met
  All' = survey_walk (surveyable (V).layout (Old))

  known : IsTold (past_of old) → (survey (V).layout (Old) ≡ Ok (All')) × AreFindings found (All')
  known told = let P : Image → Type 0 = λ i. Finds (Ok found) (V).layout (parts_of (V) i) in told_now (past_of old) P facts told

  waste : IsTold (past_of old) → AreWaste (V).layout (Old) (All')
  waste told = waste_law (V).layout (Old) (All') (has-numbers (V) (I) old.span.count old.whole.passes) (known told).0

  of-zones : IsTold (past_of old) → IsWasteUnused (V) (I) (zone_bitmap (V).layout) found
  of-zones told = zones_waste (V) (I) old.span.count old.whole found (All') (known told).1 (waste told)

  of-inodes : IsTold (past_of old) → IsWasteUnused (V) (I) (inode_bitmap (V).layout) found
  of-inodes told = inodes_waste (V) (I) old.span.count old.whole found (All') (known told).1 (waste told)

  clears : IsTold (past_of old) → ClearsWaste old new (I)
  clears told = by.clears (I) (of-zones told) (of-inodes told)

  moments : IsQuiet (past_of old) → IsSound (V) (I) → LeavesOnly (past_of old) (past_of new) (IsReclaiming (V) (I))
  moments quiet sound = either (told_or_not (past_of old))
    where
      either : IsTold (past_of old) ⊎ (IsTold (past_of old) → ⊥) → LeavesOnly (past_of old) (past_of new) (IsReclaiming (V) (I))
      either (inl told) =
          let P : Image → Type 0 = HasCleared (V) (I) in
          leaves_weaker (past_of old) (past_of new) P (IsReclaiming (V) (I))
          ((clears told).any_moment (λ c may. subst P (sym (quiet c may)) (cleared_none (V) (I) sound)))
          (λ c cleared. reclaiming_law (V) (I) c sound cleared)
      either (inr untold) = leaves-untold (past_of old) (past_of new) (IsReclaiming (V) (I)) untold (λ told. untold (by.goes_on.told_before told))

  sound-by : IsTold (past_of old) → IsLaid (V) (I) → IsSound (V) (I)
  unfolding IsSound
  sound-by told laid = record { super = laid.super; whole = laid.whole; parts = (image_law (V) (I) laid.super).sound (All') (known told).0 }

  module _ (freed : Freed) (all : FreesAll old new found freed) where
    view-mid : volume_view all.mid ≡ V
    view-mid = same_view old all.mid all.zones.kept

    told-mid : IsTold (past_of old) → IsTold (past_of all.mid)
    told-mid told = all.zones.goes_on.told told

    zone-clear : IsTold (past_of old) → (zone : ℕ) → IsWasteZone (V).layout (Old) zone → (parts_of (V) (now (past_of new))).has_zone zone ≡ false
    zone-clear told zone it =
        let from = it.from in
        let below = it.below in
        let lays = laid_super (V).layout old.span.count old.whole in
        let number : IsNumberOf (zone_bitmap (V).layout) zone = record { above = omega (arith, from, lays.table); below = below } in
        let s : ℕ = old.span.start + sector_with (zone_bitmap (V).layout) zone in
        let mid = all.zones.freed told zone number (omega (arith, from, below, lays.table)) (waste_zone_unused (V) (I) old.span.count old.whole found (All') (known told).1 (waste told) zone it) in
        let S : Span → Type 0 = λ span. IsOutside span.disk (span.start + (inode_bitmap (V).layout).sector) (sectors_of (inode_bitmap (V).layout)) old.span.disk s in
        let out : IsOutside old.span.disk (old.span.start + (inode_bitmap (V).layout).sector) (sectors_of (inode_bitmap (V).layout)) old.span.disk s = inr (inr (omega (arith, lays.imap))) in
        let kept = (not_written_stays (past_of all.mid) (past_of all.last) old.span.disk s (all.inodes.others old.span.disk s (subst S (sym all.zones.kept.same_span) out))).0 in
        sym (zone_mark (V) (now (past_of new)) old.span.count old.whole zone from)
        ∙ ap (λ (i : Image). marked (V) i (zone_bitmap (V).layout) zone) all.same
        ∙ ap (λ (b : List ℕ). bit b (bit_with (zone_bitmap (V).layout) zone)) kept
        ∙ mid

    inode-clear : IsTold (past_of old) → (number : ℕ) → IsWasteInode (V).layout (Old) number → (parts_of (V) (now (past_of new))).has_inode number ≡ false
    inode-clear told number it =
        let some = it.some in
        let there = it.there in
        let is : IsNumberOf (inode_bitmap (V).layout) number = record { above = some; below = omega (arith, there) } in
        let M : model.Volume → Type 0 = λ v. marked v (now (past_of all.last)) (inode_bitmap (V).layout) number ≡ false in
        sym (inode_mark (V) (now (past_of new)) old.span.count old.whole number)
        ∙ ap (λ (i : Image). marked (V) i (inode_bitmap (V).layout) number) all.same
        ∙ subst M view-mid (all.inodes.freed (told-mid told) number is (omega (arith, there)) (waste_inode_unused (V) (I) old.span.count old.whole found (All') (known told).1 (waste told) number it))

    reclaimed : IsTold (past_of old) → IsLaid (V) (I) → IsReclaimed (V) (I) (now (past_of new))
    reclaimed told laid =
        let sound = sound-by told laid in
        record {
          is = reclaiming_law (V) (I) (now (past_of new)) sound ((clears told).after told (cleared_none (V) (I) sound));
          no_zone = zone-clear told;
          no_inode = inode-clear told;
        }

    -- the bits of inodes were as at first when they were counted
    inode-before : (n : ℕ) → n ≤ (V).layout.inodes → is_unused_on (volume_view all.mid) (now (past_of all.mid)) (inode_bitmap (V).layout) found n ≡ is_unused_on (V) (I) (inode_bitmap (V).layout) found n
    inode-before n there =
        let lays = laid_super (V).layout old.span.count old.whole in
        let s : ℕ = old.span.start + sector_with (inode_bitmap (V).layout) n in
        let out : IsOutside old.span.disk (old.span.start + (zone_bitmap (V).layout).sector) (sectors_of (zone_bitmap (V).layout)) old.span.disk s = inr (inl (omega (arith, there, lays.imap))) in
        ap (λ (v : model.Volume). is_unused_on v (now (past_of all.mid)) (inode_bitmap (V).layout) found n) view-mid
        ∙ ap (λ (b : List ℕ). bit b (bit_with (inode_bitmap (V).layout) n) && not (is_used (inode_bitmap (V).layout).of found n))
        (not_written_stays (past_of old) (past_of all.mid) old.span.disk s (all.zones.others old.span.disk s out)).0

    many-zones : IsTold (past_of old) → freed.zones ≡ length (waste_zones (V).layout (Old) (All'))
    many-zones told = all.zones.count told ∙ zones_counted (V) (I) old.span.count old.whole found (All') (known told).1 (waste told)

    many-inodes : IsTold (past_of old) → freed.inodes ≡ length (waste_inodes (V).layout (Old) (All'))
    many-inodes told =
        all.inodes.count (told-mid told)
        ∙ ap length (same_free (is_unused_on (volume_view all.mid) (now (past_of all.mid)) (inode_bitmap (V).layout) found) (is_unused_on (V) (I) (inode_bitmap (V).layout) found)
        (0 + 1) (bits_in (inode_bitmap (V).layout) (sectors_of (inode_bitmap (V).layout)) - 1) (λ m low high. inode-before m (omega (arith, high))))
        ∙ inodes_counted (V) (I) old.span.count old.whole found (All') (known told).1 (waste told)

    counted : IsTold (past_of old) → Answers (Ok freed) (V) (I) (survey (V).layout (Old))
    counted told =
        let Q : Result (List Met) refusals.SurveyFault → Type 0 = Answers (Ok freed) (V) (I) in
        let z = many-zones told in
        let n = many-inodes told in
        subst Q (sym (known told).0) (rw (z, n) refl)

  -- the survey refused nothing
  no-err : IsTold (past_of old) → IsErr (survey (V).layout (Old)) → past_of new ≡ past_of old
  no-err told err = absurd (not-ok (survey (V).layout (Old)) (All') (known told).0 err)

  unwritten-all : Told (past_of old) (λ i. IsErr (survey (V).layout (parts_of (V) i)) → past_of new ≡ past_of old)
  unwritten-all = told-from (past_of old) (λ i. IsErr (survey (V).layout (parts_of (V) i)) → past_of new ≡ past_of old) no-err

  by-answer : (given : Result Freed ReclaimFault) → result ≡ given → IfOk given (FreesAll old new found) → IfErr given (λ fault. (fault ≡ Device) × Rose (faults_of old) (faults_of new)) → Reclaims old new given
  by-answer (Ok freed) is all device = record {
    answers = told-from (past_of old) (λ i. Answers (Ok freed) (V) i (survey (V).layout (parts_of (V) i))) (counted freed all);
    any_moment = moments;
    done = reclaimed freed all;
    quiet = all.quiet;
    refused = tt;
    unwritten = unwritten-all;
    outside = by.outside;
    cause = tt;
    goes_on = by.goes_on;
    kept = by.kept;
  }
  by-answer (Err fault) is all device =
      let F : ReclaimFault → Type 0 = λ f. Reclaims old new (Err f) in
      subst F (sym device.0) (record {
        answers = told-from (past_of old) (λ i. Unit {0}) (λ told. tt);
        any_moment = moments;
        done = λ told laid. tt;
        quiet = tt;
        refused = λ wrong. cc;
        unwritten = unwritten-all;
        outside = by.outside;
        cause = device.1;
        goes_on = by.goes_on;
        kept = by.kept;
      })

  pub reclaims_found : Reclaims old new result
  reclaims_found = by-answer result refl by.all by.device
