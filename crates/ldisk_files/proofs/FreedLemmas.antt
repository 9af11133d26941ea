-- Freeing waste: what is answered, and what is left.
use Rattle.std.proofs.Common.{◌≡◌, ◌≢◌, ◌≤◌, ◌+◌, ◌⊎◌, ◌==◌, ◌&&◌, ℕ, Bool, true, false, List, Option, Result, Ok, Err, IsErr, refl, sym, ◌∙◌, ap, subst, inl, inr}
use Rattle.std.specs.Prelude.{OnOk, IfErr, nat_le, nat_lt}
use Rattle.std.proofs.lemmas.Bool.{eq-eqb, leb-false, ltb-false}
use Rattle.disk_trait.specs.declared.disks.Disks.{Ghosts}
use Rattle.disk_trait.specs.Calls.{GoesOn, SameOf}
use Rattle.disk_trait.specs.Moments.{IsTold, now, IsQuiet, LeavesOnly}
use Rattle.disk_trait.specs.NotWritten.{NotWritten}
use Rattle.disk_trait.specs.Past.{Image, Past, Told}
use Rattle.disk_trait.specs.Range.{IsOutside}
use Rattle.disk_trait.proofs.CallLemmas.{goes_on_same, goes_on_join}
use Rattle.disk_trait.proofs.MomentLemmas.{leaves_none, leaves_weaker, told_now, told_or_not}
use Rattle.disk_trait.proofs.NotWrittenLemmas.{not_written_none}
use Rattle.disk_trait.proofs.ToldLemmas.{told_all, told_map, told_both}
use Rattle.lilo_model.specs.Checks.{◌>>=◌, with_fault}
use Rattle.lilo_model.specs.Disks.{Span}
use Rattle.lilo_model.specs.Faults.{Rose}
use Rattle.lilo_model.specs.MinixNames.{IsSound}
use Rattle.lilo_model.specs.MinixParts as model
use Rattle.lilo_model.specs.MinixParts.{parts_of, volume_at}
use Rattle.lilo_model.specs.MinixSurvey.{Met, SurveyFault, survey}
use Rattle.lilo_model.proofs.RoseLemmas.{rose_after}
use Rattle.ldisk_model.specs.FileVerdict.{FileRefusal, NoVolume, NotSound, checked_status, freed_check, freed_at}
use Rattle.ldisk_model.specs.Laid.{IsLaid}
use Rattle.ldisk_model.specs.Verdict.{is_in, is_in_bitmaps, bitmap_span}
use Rattle.ldisk_model.specs.Waste as waste
use Rattle.ldisk_model.specs.Waste.{IsReclaiming, IsReclaimed, freed_by}
use Rattle.minix_reclaim.specs.Reclaim as reclaims
use Rattle.minix_reclaim.specs.Reclaim.{Reclaims, HasReclaimCause, freed_view}
use Rattle.minix_reclaim.specs.declared.fault.ReclaimFault.{ReclaimFault}
use Rattle.minix_reclaim.specs.declared.fault.ReclaimFault.TheVariants.{Survey, Device, Memory}
use Rattle.minix_reclaim.specs.declared.waste.Freed.{Freed}
use Rattle.minix_zones.specs.Volume.{volume_view, past_of, faults_of}
use Rattle.minix_zones.specs.declared.volume.Volume.{Volume}
use Rattle.minix_zones.specs.View as volumes
use Rattle.minix_zones.specs.View.{span_view}
use Rattle.minix_zones.specs.declared.zone_fault.ZoneFault.{ZoneFault}
use Rattle.minix_zones.specs.declared.zone_fault.ZoneFault.TheVariants as zones
use Rattle.ldisk_files.specs.Answer.{Answers, HasFileCause, is_refusal, zone_fault}
use Rattle.ldisk_files.specs.Freed.{GivesFreed, IsFreeing, IsFreed, FreesWaste, freed_answer}
use Rattle.ldisk_files.specs.Left.{HasSoundVolume}
use Rattle.ldisk_files.specs.declared.fault.FileFault.TheVariants as faults
use Rattle.ldisk_files.proofs.PathLemmas.{volume-refuses, zone-cause}
use Rattle.ldisk_files.proofs.RefuseLemmas.{answers-then}
use Rattle.ldisk_files.proofs.UntoldLemmas.{leaves-untold}

-- a sector that isn't one of a span lies outside it
pub is-outside : (span : Span) (d s : ℕ) → is_in span d s ≡ false → IsOutside span.disk span.start span.count d s
is-outside span d s out = by (span.disk == d) (nat_le span.start s) (nat_lt s (span.start + span.count)) refl refl refl out
  where
    by : (a b c : Bool) → (span.disk == d) ≡ a → nat_le span.start s ≡ b → nat_lt s (span.start + span.count) ≡ c
        → ((span.disk == d) && nat_le span.start s && nat_lt s (span.start + span.count)) ≡ false → IsOutside span.disk span.start span.count d s
    by false b c e f g out = inl (λ same. let t = eq-eqb span.disk d (sym same) in cc)
    by true false c e f g out = inr (inl (leb-false span.start s f))
    by true true false e f g out = inr (inr (ltb-false s (span.start + span.count) g))
    by true true true e f g out = absurd (let no = rw (e, f, g) at out in cc)

-- nothing is freed yet
freeing-none : (volume : model.Volume) (image : Image) → IsSound volume image → IsReclaiming volume image image
freeing-none volume image sound = record {
  sound = sound;
  same = λ path. refl;
  zones = λ zone bit. inl refl;
  inodes = λ number bit. inl refl;
}

-- what the disks held leaves nothing freed
pub held-freeing : (span : Span) (image c : Image) → HasSoundVolume span image → c ≡ image → IsFreeing span image c
held-freeing span image c sound is = subst (λ (i : Image). IsFreeing span image i) (sym is)
    (record { volume = sound.volume; is = sound.is; has = freeing-none sound.volume image sound.sound })

-- ---- what is answered

module _ (volume : model.Volume) (image : Image) where
  abbrev Found : Result (List Met) SurveyFault
  Found = survey volume.layout (parts_of volume image)

  counted : (freed : Freed) (found : Result (List Met) SurveyFault) → reclaims.Answers (Ok freed) volume image found
      → (with_fault NotSound found >>= λ met. Ok (freed_by volume.layout (parts_of volume image) met)) ≡ Ok (freed_view freed)
  counted freed (Ok met) is = ap Ok (sym is)
  counted freed (Err fault) is = absurd is

  gives : (answer : Result Freed ReclaimFault) → reclaims.Answers answer volume image Found → GivesFreed (freed_check volume image) (freed_answer answer)
  gives (Ok freed) is = counted freed Found is
  gives (Err (Survey fault)) is =
      answers-then Freed faults.Refused NotSound (λ why. refl) Found (λ met. Ok (freed_by volume.layout (parts_of volume image) met)) is.1
  gives (Err Device) is = tt
  gives (Err Memory) is = tt

  -- where the count is refused, so is the survey
  survey-err : (found : Result (List Met) SurveyFault)
      → checked_status (with_fault NotSound found >>= λ met. Ok (freed_by volume.layout (parts_of volume image) met)) ≢ 0 → IsErr found
  survey-err (Ok met) some = absurd (some refl)
  survey-err (Err fault) some = refl

-- the count is that of the volume that is there
at-volume : (image : Image) (span : Span) (volume : model.Volume) → volume_at image span ≡ Ok volume → freed_at image span ≡ freed_check volume image
unfolding freed_at
at-volume image span volume is = rw is refl

no-volume-freed : (image : Image) (span : Span) (fault : ZoneFault) → volumes.Refuses fault (volume_at image span) → GivesFreed (freed_at image span) (Err (zone_fault fault))
unfolding freed_at
no-volume-freed image span fault refuses =
    answers-then Freed (zone_fault fault) NoVolume (λ why. refl) (volume_at image span) (λ volume. freed_check volume image) (volume-refuses fault (volume_at image span) refuses)

-- ---- answers reported

ok-as : (P : Type 0) (answer : Result Freed ReclaimFault) → OnOk answer P → OnOk (freed_answer answer) P
ok-as P (Ok freed) held = held
ok-as P (Err fault) held = tt

ok-map : {P Q : Type 0} (answer : Result Freed ReclaimFault) → (P → Q) → OnOk answer P → OnOk (freed_answer answer) Q
ok-map (Ok freed) f held = f held
ok-map (Err fault) f held = tt

refused-as : {P Q : Type 0} (answer : Result Freed ReclaimFault) → (P → Q) → IfErr answer (λ fault. reclaims.is_refusal fault ≡ true → P)
    → IfErr (freed_answer answer) (λ fault. is_refusal fault ≡ true → Q)
refused-as (Ok freed) f held = tt
refused-as (Err (Survey fault)) f held = λ is. f (held refl)
refused-as (Err Device) f held = λ is. absurd cc
refused-as (Err Memory) f held = λ is. f (held refl)

cause-as : (before mid after : ℕ) → before ≤ mid → (answer : Result Freed ReclaimFault) → IfErr answer (HasReclaimCause mid after)
    → IfErr (freed_answer answer) (HasFileCause before after)
cause-as before mid after later (Ok freed) cause = tt
cause-as before mid after later (Err (Survey fault)) cause = tt
cause-as before mid after later (Err Device) cause = rose_after before mid after later cause
cause-as before mid after later (Err Memory) cause = tt

module _ {D : Type 0} (disks : Ghosts D) (old : D) (span : Span) where
  abbrev I : Image
  I = now (disks.past old)

  module _ (new : D) (same : SameOf disks old new) (later : disks.faults old ≤ disks.faults new) where
    unchanged : GoesOn disks old new
    unchanged = goes_on_same disks old new same.same_past record { later = later; size = same.same_size; count = same.same_count; geometry = same.same_geometry }

    -- there is no volume
    pub none-freed : (fault : ZoneFault) → Told (disks.past old) (λ now. volumes.Refuses fault (volume_at now span)) → (fault ≡ zones.Device → Rose (disks.faults old) (disks.faults new))
        → FreesWaste disks old new span (Err (zone_fault fault))
    none-freed fault refuses rose = record {
      answers = told_map (disks.past old) (λ now. volumes.Refuses fault (volume_at now span)) (λ now. GivesFreed (freed_at now span) (Err (zone_fault fault)))
          (λ now is. no-volume-freed now span fault is) refuses;
      any_moment = λ quiet sound. subst (λ (past : Option Past). LeavesOnly (disks.past old) past (IsFreeing span I)) (sym same.same_past)
          (leaves_none (disks.past old) (IsFreeing span I) (λ c left. held-freeing span I c sound (quiet c left)));
      done = λ told. tt;
      quiet = tt;
      refused = λ is. same.same_past;
      unwritten = told_all (disks.past old) _ (λ now some. same.same_past);
      outside = told_all (disks.past old) _ (λ now d s out. subst (λ (past : Option Past). NotWritten (disks.past old) past d s) (sym same.same_past) (not_written_none (disks.past old) d s));
      goes_on = unchanged;
      cause = zone-cause (disks.faults old) (disks.faults new) fault rose;
    }

  -- what was done with the volume
  module _ (volume last : Volume D disks) (same : SameOf disks old volume.disks.now) (later : disks.faults old ≤ faults_of volume)
      (is : Told (disks.past old) (λ now. volume_at now span ≡ Ok (volume_view volume))) (laid : Told (past_of volume) (IsLaid (volume_view volume)))
      (answer : Result Freed ReclaimFault) (done : Reclaims volume last answer) where
    abbrev V : model.Volume
    V = volume_view volume

    same-held : now (past_of volume) ≡ I
    same-held = ap now same.same_past

    told-on : IsTold (disks.past old) → IsTold (past_of volume)
    told-on told = subst IsTold (sym same.same_past) told

    at-now : IsTold (disks.past old) → volume_at I span ≡ Ok V
    at-now told = told_now (disks.past old) (λ now. volume_at now span ≡ Ok V) is told

    -- what is told of the volume is told of the disks before
    before : (P : Image → Type 0) → Told (past_of volume) P → Told (disks.past old) P
    before P told = subst (λ (past : Option Past). Told past P) same.same_past told

    whole-run : GoesOn disks old last.disks.now
    whole-run = goes_on_join disks old volume.disks.now last.disks.now (unchanged volume.disks.now same later) done.goes_on

    moment-told : IsTold (disks.past old) → IsQuiet (disks.past old) → HasSoundVolume span I → LeavesOnly (disks.past old) (past_of last) (IsFreeing span I)
    moment-told told quiet sound =
        let volume-same : sound.volume ≡ V = let e = sym sound.is ∙ at-now told in cc in
        let here : IsSound V (now (past_of volume)) =
        subst (λ (i : Image). IsSound V i) (sym same-held) (subst (λ (v : model.Volume). IsSound v I) volume-same sound.sound) in
        let run = done.any_moment (subst IsQuiet (sym same.same_past) quiet) here in
        leaves_weaker (disks.past old) (past_of last) (IsReclaiming V (now (past_of volume))) (IsFreeing span I)
        (subst (λ (past : Option Past). LeavesOnly past (past_of last) (IsReclaiming V (now (past_of volume)))) same.same_past run)
        (λ c has. record { volume = V; is = at-now told; has = subst (λ (i : Image). IsReclaiming V i c) same-held has })

    moment : IsQuiet (disks.past old) → HasSoundVolume span I → LeavesOnly (disks.past old) (past_of last) (IsFreeing span I)
    moment quiet sound = by (told_or_not (disks.past old))
      where
        by : IsTold (disks.past old) ⊎ (IsTold (disks.past old) → ⊥) → LeavesOnly (disks.past old) (past_of last) (IsFreeing span I)
        by (inl told) = moment-told told quiet sound
        by (inr none) = leaves-untold (disks.past old) (past_of last) (IsFreeing span I) none (λ told. none (whole-run.told_before told))

    all-freed : IsTold (disks.past old) → OnOk (freed_answer answer) (IsFreed span I (now (past_of last)))
    all-freed told = ok-map answer
        (λ has. record { volume = V; is = at-now told; has = subst (λ (i : Image). IsReclaimed V i (now (past_of last))) same-held has })
        (done.done (told-on told) (told_now (past_of volume) (IsLaid V) laid (told-on told)))

    pub waste-freed : FreesWaste disks old last.disks.now span (freed_answer answer)
    waste-freed = record {
      answers = told_both (disks.past old) (λ now. volume_at now span ≡ Ok V) (λ now. reclaims.Answers answer V now (survey V.layout (parts_of V now)))
          (λ now. GivesFreed (freed_at now span) (freed_answer answer))
          (λ now at answers. subst (λ (check : Result waste.Freed FileRefusal). GivesFreed check (freed_answer answer)) (sym (at-volume now span V at)) (gives V now answer answers))
          is (before (λ now. reclaims.Answers answer V now (survey V.layout (parts_of V now))) done.answers);
      any_moment = moment;
      done = all-freed;
      quiet = ok-as (IsQuiet (past_of last)) answer done.quiet;
      refused = refused-as answer (λ none. none ∙ same.same_past) done.refused;
      unwritten = told_both (disks.past old) (λ now. volume_at now span ≡ Ok V) (λ now. IsErr (survey V.layout (parts_of V now)) → past_of last ≡ past_of volume)
          (λ now. checked_status (freed_at now span) ≢ 0 → past_of last ≡ disks.past old)
          (λ now at none some.
          none (survey-err V now (survey V.layout (parts_of V now)) (λ zero. some (ap checked_status (at-volume now span V at) ∙ zero))) ∙ same.same_past)
          is (before (λ now. IsErr (survey V.layout (parts_of V now)) → past_of last ≡ past_of volume) done.unwritten);
      outside = told_map (disks.past old) (λ now. volume_at now span ≡ Ok V)
          (λ now. (d s : ℕ) → is_in_bitmaps (volume_at now span) d s ≡ false → NotWritten (disks.past old) (past_of last) d s)
          (λ now at d s out. subst (λ (past : Option Past). NotWritten past (past_of last) d s) same.same_past
          (done.outside d s (is-outside (bitmap_span V) d s (rw at at out))))
          is;
      goes_on = whole-run;
      cause = cause-as (disks.faults old) (faults_of volume) (faults_of last) later answer done.cause;
    }
