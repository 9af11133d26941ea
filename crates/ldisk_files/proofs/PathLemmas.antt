-- A path whose name is changed, and the volume in a span.
use Rattle.std.proofs.Common.{◌≡◌, ◌≢◌, ◌≤◌, ◌+◌, ◌⊎◌, ℕ, true, List, [], length, Option, None, Result, Ok, Err, refl, sym, ◌∙◌, ap, subst, inl, inr, arith}
use Rattle.std.specs.Prelude.{OnOk, IfErr}
use Rattle.disk_trait.specs.declared.disks.Disks.{Ghosts}
use Rattle.disk_trait.specs.Calls.{GoesOn, SameOf}
use Rattle.disk_trait.specs.Moments.{IsTold, now, IsQuiet, LeavesOnly, IsWhole, IsWholeImage}
use Rattle.disk_trait.specs.NotWritten.{NotWritten}
use Rattle.disk_trait.specs.Past.{Image, Past, Told}
use Rattle.disk_trait.specs.Range.{IsOutside}
use Rattle.disk_trait.proofs.CallLemmas.{goes_on_same, goes_on_join}
use Rattle.disk_trait.proofs.MomentLemmas.{at_now, leaves_none, leaves_weaker, told_now, told_or_not}
use Rattle.disk_trait.proofs.NotWrittenLemmas.{not_written_none}
use Rattle.disk_trait.proofs.ToldLemmas.{told_all, told_map, told_both}
use Rattle.lilo_model.specs.Checks.{◌>>=◌, with_fault}
use Rattle.lilo_model.specs.Disks.{Span}
use Rattle.lilo_model.specs.Faults.{Rose}
use Rattle.lilo_model.specs.MinixLayout.{Super, IsSuper, LayoutFault, super_at, super_sector}
use Rattle.lilo_model.specs.MinixNames.{Thing, IsSound, names_in}
use Rattle.lilo_model.specs.NamePlaces.{name_path}
use Rattle.lilo_model.specs.MinixParts as model
use Rattle.lilo_model.specs.MinixParts.{Layout, volume_at, volume_with, sector_of}
use Rattle.minix_zones.specs.Volume.{volume_view, past_of, faults_of, SameVolume}
use Rattle.minix_zones.specs.declared.volume.Volume.{Volume}
use Rattle.minix_zones.proofs.SameLemmas.{same_view}
use Rattle.minix_zones.proofs.ZoneLemmas.{zones_fit}
use Rattle.minix_zones.specs.View as volumes
use Rattle.minix_zones.specs.View.{span_view}
use Rattle.minix_zones.specs.declared.zone_fault.ZoneFault.{ZoneFault}
use Rattle.minix_zones.specs.declared.zone_fault.ZoneFault.TheVariants as zones
use Rattle.minix_layout.specs.View.{super_view}
use Rattle.minix_names.specs.declared.place.NamePlace.{NamePlace}
use Rattle.minix_change_laws.specs.Tree.{HasNamesWith}
use Rattle.ldisk_model.specs.Laid.{IsLaid}
use Rattle.ldisk_files.specs.Answer.{Answers, HasFileCause, IsRemovable, IsSomeRemovable, GivesRemovable, GivesChecked, IsUnwritten, IsUnwrittenAt, Refuses, is_refusal, zone_fault}
use Rattle.ldisk_model.specs.FileVerdict.{FileRefusal, NoVolume, volume_check, sound_check, gone_check, checked_status}
use Rattle.ldisk_files.specs.Left.{HasNamesOf, HasNamesBetween, HasNamed, HasEither, HasSoundVolume, IsNamed, IsEither, ChangesName, LeavesOn, LeavesNames}
use Rattle.ldisk_files.specs.declared.fault.FileFault.{FileFault}
use Rattle.ldisk_files.specs.declared.fault.FileFault.TheVariants.{Refused, BadLength, NoSpace, Device, Memory}
use Rattle.ldisk_files.proofs.RefuseLemmas.{answers-then}
use Rattle.ldisk_files.proofs.UntoldLemmas.{told-from, untold-none, leaves-untold}

-- a cause since a later moment is one since an earlier
pub cause-since : (before mid after : ℕ) (fault : FileFault) → before ≤ mid → HasFileCause mid after fault → HasFileCause before after fault
cause-since before mid after Refused later cause = tt
cause-since before mid after BadLength later cause = tt
cause-since before mid after NoSpace later cause = tt
cause-since before mid after Device later cause = λ below. let rose = cause below in omega (arith, later, rose)
cause-since before mid after Memory later cause = tt

pub cause-up : (before mid after : ℕ) → before ≤ mid → (r : Result (Unit {0}) FileFault) → IfErr r (HasFileCause mid after) → IfErr r (HasFileCause before after)
cause-up before mid after later (Ok done) cause = tt
cause-up before mid after later (Err fault) cause = cause-since before mid after fault later cause

-- ---- a call that made no event

module _ {D : Type 0} {disks : Ghosts D} (old new : Volume D disks) (same : SameVolume old new) (later : faults_of old ≤ faults_of new) where
  goes-on-same : GoesOn disks old.disks.now new.disks.now
  goes-on-same = goes_on_same disks old.disks.now new.disks.now same.same_disks.same_past
      record { later = later; size = same.same_disks.same_size; count = same.same_disks.same_count; geometry = same.same_disks.same_geometry }

  pub refused-on : (text : List ℕ) (what : Option Thing) (fault : FileFault) → HasFileCause (faults_of old) (faults_of new) fault → LeavesOn old new text what (Err fault)
  refused-on text what fault cause = record {
    any_moment = λ quiet sound. subst (λ (past : Option Past). LeavesOnly (past_of old) past (HasEither (volume_view old) (now (past_of old)) text what)) (sym same.same_disks.same_past)
        (leaves_none (past_of old) (HasEither (volume_view old) (now (past_of old)) text what) (λ c left.
        let is : c ≡ now (past_of old) = quiet c left in
        inl (subst (λ (i : Image). HasNamesOf (volume_view old) (now (past_of old)) i) (sym is) (record { sound = sound; same = λ p. refl }))));
    done = λ told. tt;
    quiet = tt;
    refused = λ is. same.same_disks.same_past;
    outside = λ d s outside. subst (λ (past : Option Past). NotWritten (past_of old) past d s) (sym same.same_disks.same_past) (not_written_none (past_of old) d s);
    goes_on = goes-on-same;
    cause = cause;
  }

-- ---- what a check refuses isn't written

module _ {A : Type 0} (old new : Option Past) (check : model.Volume → Image → Result A FileRefusal) where
  -- nothing is
  pub unwritten-same : (volume : model.Volume) → new ≡ old → IsUnwritten old new volume check
  unwritten-same volume same = told_all old _ (λ now some. same)

  pub unwritten-span : (span : Span) → new ≡ old → IsUnwrittenAt old new span check
  unwritten-span span same = told_all old _ (λ now some. same)

  -- none refuses
  pub unwritten-passed : (volume : model.Volume) → Told old (λ now. checked_status (sound_check check volume now) ≡ 0) → IsUnwritten old new volume check
  unwritten-passed volume passes = told_map old _ _ (λ now is some. absurd (some is)) passes

-- ---- the name at a path

-- all checks of a text passed, and its path is this one
pub record HasPassed (volume : model.Volume) (image : Image) (text : List ℕ) (check : model.Volume → Image → Result (List (List ℕ)) FileRefusal) : Type 0 where
  pub path : List (List ℕ)
  pub is : name_path (names_in volume image) text ≡ Ok path
  pub passes : checked_status (sound_check check volume image) ≡ 0

module _ {D : Type 0} {disks : Ghosts D} (old mid : Volume D disks) (same : SameVolume old mid) where
  abbrev V : model.Volume
  V = volume_view old

  abbrev I : Image
  I = now (past_of old)

  forth-same : (P : model.Volume → Image → Type 0) → P V I → P (volume_view mid) (now (past_of mid))
  forth-same P is = subst (λ (v : model.Volume). P v (now (past_of mid))) (sym (same_view old mid same))
      (subst (λ (past : Option Past). P V (now past)) (sym same.same_disks.same_past) is)

  pub back-same : (P : model.Volume → Image → Type 0) → P (volume_view mid) (now (past_of mid)) → P V I
  back-same P is = subst (λ (past : Option Past). P V (now past)) same.same_disks.same_past
      (subst (λ (v : model.Volume). P v (now (past_of mid))) (same_view old mid same) is)

  pub told-back : IsTold (past_of mid) → IsTold (past_of old)
  told-back told = subst IsTold same.same_disks.same_past told

  module _ (text : List ℕ) (what : Option Thing) (check : model.Volume → Image → Result (List (List ℕ)) FileRefusal) (passed : IsTold (past_of old) → HasPassed V I text check)
      (later : faults_of old ≤ faults_of mid) (new : Volume D disks) (result : Result (Unit {0}) FileFault)
      (changes-told : (told : IsTold (past_of old)) → ChangesName mid new (passed told).path what result)
      (other : List (List ℕ)) (changes-untold : (IsTold (past_of old) → ⊥) → ChangesName mid new other what result)
      (quiet : OnOk result (IsQuiet (past_of new))) (cause : IfErr result (HasFileCause (faults_of mid) (faults_of new))) where
    goes-on-mid : GoesOn disks old.disks.now mid.disks.now
    goes-on-mid = goes-on-same old mid same later

    goes-on-new : GoesOn disks mid.disks.now new.disks.now
    goes-on-new = by (told_or_not (past_of old))
      where
        by : IsTold (past_of old) ⊎ (IsTold (past_of old) → ⊥) → GoesOn disks mid.disks.now new.disks.now
        by (inl told) = (changes-told told).goes_on
        by (inr none) = (changes-untold none).goes_on

    goes-on-all : GoesOn disks old.disks.now new.disks.now
    goes-on-all = goes_on_join disks old.disks.now mid.disks.now new.disks.now goes-on-mid goes-on-new

    untold-new : (IsTold (past_of old) → ⊥) → IsTold (past_of new) → ⊥
    untold-new none told = none (goes-on-all.told_before told)

    either : (told : IsTold (past_of old)) (c : Image) → HasNamesBetween V I (passed told).path what c → HasEither V I text what c
    either told c (inl of) = inl of
    either told c (inr with) = inr record { path = (passed told).path; at = (passed told).is; has = with }

    moment-told : IsTold (past_of old) → IsQuiet (past_of old) → LeavesOnly (past_of old) (past_of new) (HasEither V I text what)
    moment-told told quiet-old =
        let quiet-mid : IsQuiet (past_of mid) = subst IsQuiet (sym same.same_disks.same_past) quiet-old in
        let run = back-same (λ (v : model.Volume) (i : Image). LeavesOnly (past_of mid) (past_of new) (HasNamesBetween v i (passed told).path what)) ((changes-told told).any_moment quiet-mid) in
        leaves_weaker (past_of old) (past_of new) (HasNamesBetween V I (passed told).path what) (HasEither V I text what)
        (subst (λ (past : Option Past). LeavesOnly past (past_of new) (HasNamesBetween V I (passed told).path what)) same.same_disks.same_past run) (either told)

    moment-any : IsQuiet (past_of old) → LeavesOnly (past_of old) (past_of new) (HasEither V I text what)
    moment-any quiet-old = by (told_or_not (past_of old))
      where
        by : IsTold (past_of old) ⊎ (IsTold (past_of old) → ⊥) → LeavesOnly (past_of old) (past_of new) (HasEither V I text what)
        by (inl told) = moment-told told quiet-old
        by (inr none) = leaves-untold (past_of old) (past_of new) (HasEither V I text what) none (untold-new none)

    device : IsTold (past_of old) → IfErr result (λ fault. fault ≡ Device)
    device told = (changes-told told).device (goes-on-mid.told told)

    named-by : (told : IsTold (past_of old)) (r : Result (Unit {0}) FileFault) → OnOk r (HasNamesWith V I (now (past_of new)) (passed told).path what)
        → OnOk r (HasNamed V I text what (now (past_of new)))
    named-by told (Ok done) has = record { path = (passed told).path; at = (passed told).is; has = has }
    named-by told (Err fault) has = tt

    outside-all : (d s : ℕ) → IsOutside old.span.disk old.span.start old.span.count d s → NotWritten (past_of old) (past_of new) d s
    outside-all d s outside = by (told_or_not (past_of old))
      where
        from : (path : List (List ℕ)) → ChangesName mid new path what result → NotWritten (past_of old) (past_of new) d s
        from path changes = subst (λ (past : Option Past). NotWritten past (past_of new) d s) same.same_disks.same_past
            (changes.outside d s (rw same.same_span outside))

        by : IsTold (past_of old) ⊎ (IsTold (past_of old) → ⊥) → NotWritten (past_of old) (past_of new) d s
        by (inl told) = from (passed told).path (changes-told told)
        by (inr none) = from other (changes-untold none)

    refused-by : (r : Result (Unit {0}) FileFault) → (IsTold (past_of old) → IfErr r (λ fault. fault ≡ Device)) → IfErr r (λ fault. is_refusal fault ≡ true → past_of new ≡ past_of old)
    refused-by (Ok done) only = tt
    refused-by (Err fault) only = λ is. by is (told_or_not (past_of old))
      where
        by : is_refusal fault ≡ true → IsTold (past_of old) ⊎ (IsTold (past_of old) → ⊥) → past_of new ≡ past_of old
        by is (inl told) = absurd (let no : is_refusal Device ≡ true = subst (λ (f : FileFault). is_refusal f ≡ true) (only told) is in cc)
        by is (inr none) = untold-none (past_of new) (untold-new none) ∙ sym (untold-none (past_of old) none)

    pub leaves-on : LeavesOn old new text what result
    leaves-on = record {
      any_moment = λ quiet sound. moment-any quiet;
      done = λ told. named-by told result (back-same (λ (v : model.Volume) (i : Image). OnOk result (HasNamesWith v i (now (past_of new)) (passed told).path what)) ((changes-told told).done (goes-on-mid.told told)));
      quiet = quiet;
      refused = refused-by result device;
      outside = outside-all;
      goes_on = goes-on-all;
      cause = cause-up (faults_of old) (faults_of mid) (faults_of new) later result cause;
    }

    answer-by : (image : Image) (r : Result (Unit {0}) FileFault) → IfErr r (λ fault. fault ≡ Device) → checked_status (sound_check check V image) ≡ 0 → Answers (sound_check check V image) r
    answer-by image (Ok done) only passes = passes
    answer-by image (Err fault) only passes = subst (λ (f : FileFault). Answers {B = Unit {0}} (sound_check check V image) (Err f)) (sym only) tt

    pub answers-on : Told (past_of old) (λ now. Answers (sound_check check V now) result)
    answers-on = told-from (past_of old) (λ now. Answers (sound_check check V now) result) (λ told.
        answer-by I result (device told) (passed told).passes)

-- ---- the name that goes

module _ {D : Type 0} {disks : Ghosts D} (old mid : Volume D disks) (same : SameVolume old mid) (text : List ℕ) (place : NamePlace)
    (checked : Told (past_of old) (λ now. GivesChecked (volume_view old) now text (Ok place))) where
  pub found : IsTold (past_of old) → GivesRemovable (volume_view old) (now (past_of old)) text place
  found told = (told_now (past_of old) (λ now. GivesChecked (volume_view old) now text (Ok place)) checked told).0

  passed-by : IsTold (past_of old) → HasPassed (volume_view old) (now (past_of old)) text (gone_check text)
  passed-by told = record {
    path = (found told).path;
    is = (found told).is;
    passes = (told_now (past_of old) (λ now. GivesChecked (volume_view old) now text (Ok place)) checked told).1;
  }

  pub removable-mid : (told : IsTold (past_of old)) → IsRemovable (volume_view mid) (now (past_of mid)) (found told).path place.directory.inode place.name.now
  removable-mid told = forth-same old mid same (λ (v : model.Volume) (i : Image). IsRemovable v i (found told).path place.directory.inode place.name.now) (found told).removable

  pub unwritten-removed : (new : Option Past) → IsUnwritten (past_of old) new (volume_view old) (gone_check text)
  unwritten-removed new = unwritten-passed (past_of old) new (gone_check text) (volume_view old) (told_map (past_of old) _ _ (λ now is. is.1) checked)

  pub may-remove : IsTold (past_of mid) → IsSomeRemovable (volume_view mid) (now (past_of mid)) place.directory.inode place.name.now
  may-remove told =
      let before = told-back old mid same told in
      record { path = (found before).path; is = removable-mid before }

  module _ (later : faults_of old ≤ faults_of mid) (new : Volume D disks) (result : Result (Unit {0}) FileFault)
      (changes : (path : List (List ℕ)) → (IsTold (past_of mid) → IsRemovable (volume_view mid) (now (past_of mid)) path place.directory.inode place.name.now) → ChangesName mid new path None result)
      (quiet : OnOk result (IsQuiet (past_of new))) (cause : IfErr result (HasFileCause (faults_of mid) (faults_of new))) where
    at-path : (told : IsTold (past_of old)) → ChangesName mid new (passed-by told).path None result
    unfolding passed-by found
    at-path told = changes (passed-by told).path (λ t. removable-mid told)

    -- where nothing is told any path will do
    at-none : (IsTold (past_of old) → ⊥) → ChangesName mid new [] None result
    at-none none = changes [] (λ told. absurd (none (told-back old mid same told)))

    pub changed-on : LeavesOn old new text None result
    changed-on = leaves-on old mid same text None (gone_check text) passed-by later new result at-path [] at-none quiet cause

    pub changed-answer : Told (past_of old) (λ now. Answers (sound_check (gone_check text) (volume_view old) now) result)
    changed-answer = answers-on old mid same text None (gone_check text) passed-by later new result at-path [] at-none quiet cause

-- ---- the volume in a span

-- where a volume lies in a span, its superblock is the one that was read
volume-by : (image : Image) (span : Span) (given : Result Super LayoutFault) (volume : model.Volume) → (with_fault Layout given >>= λ super. Ok (volume_with span super)) ≡ Ok volume
    → (given ≡ Ok volume.layout) × (volume.span ≡ span)
volume-by image span (Ok super) volume is = let same : volume_with span super ≡ volume = cc in (ap (λ (v : model.Volume). Ok v.layout) same, sym (ap (λ (v : model.Volume). v.span) same))
volume-by image span (Err fault) volume is = absurd cc

laid-at : (size_of : ℕ → ℕ) (image : Image) (span : Span) (volume : model.Volume) → volume_at image span ≡ Ok volume → IsWholeImage size_of image
    → span.start + span.count ≤ size_of span.disk → IsSuper volume.layout volume.span.count → IsLaid volume image
unfolding volume_at
laid-at size_of image span volume is whole on_disk super =
    let both = volume-by image span (super_at (image span.disk (span.start + super_sector)) span.count) volume is in
    let count : volume.span.count ≡ span.count = ap (λ (s : Span). s.count) both.1 in
    let within = zones_fit volume.layout volume.span.count super.passes in
    record {
      super = subst (λ (place : Span). super_at (image place.disk (place.start + super_sector)) place.count ≡ Ok volume.layout) (sym both.1) both.0;
      whole = λ sector below. subst (λ (place : Span). length (image place.disk (place.start + sector)) ≡ 512) (sym both.1) (whole span.disk (span.start + sector) (omega (arith, below, on_disk, within, count)));
    }

-- the checks are those of the volume that is there
pub check-is : {A : Type 0} (check : model.Volume → Image → Result A FileRefusal) (image : Image) (span : Span) (volume : model.Volume) → volume_at image span ≡ Ok volume
    → volume_check check image span ≡ sound_check check volume image
unfolding volume_check
check-is check image span volume is = rw is refl

pub volume-refuses : {B : Type 0} (fault : ZoneFault) (given : Result B model.ZoneFault) → volumes.Refuses fault given → Refuses (zone_fault fault) given
volume-refuses (zones.Layout fault) given refuses = rw refuses refl
volume-refuses (zones.ZoneOutside zone) given refuses = rw refuses refl
volume-refuses zones.Device given refuses = tt

pub no-volume : {A : Type 0} (check : model.Volume → Image → Result A FileRefusal) (image : Image) (span : Span) (fault : ZoneFault) → volumes.Refuses fault (volume_at image span)
    → Answers {B = Unit {0}} (volume_check check image span) (Err (zone_fault fault))
unfolding volume_check
no-volume check image span fault refuses =
    answers-then (Unit {0}) (zone_fault fault) NoVolume (λ why. refl) (volume_at image span) (λ volume. sound_check check volume image) (volume-refuses fault (volume_at image span) refuses)

pub zone-cause : (before after : ℕ) (fault : ZoneFault) → (fault ≡ zones.Device → Rose before after) → HasFileCause before after (zone_fault fault)
zone-cause before after (zones.Layout fault) rose = tt
zone-cause before after (zones.ZoneOutside zone) rose = tt
zone-cause before after zones.Device rose = rose refl

module _ {D : Type 0} (disks : Ghosts D) (old : D) (span : Span) (text : List ℕ) (what : Option Thing) where
  -- ---- nothing was done

  module _ (new : D) (same : SameOf disks old new) (later : disks.faults old ≤ disks.faults new) where
    goes-on-from : GoesOn disks old new
    goes-on-from = goes_on_same disks old new same.same_past record { later = later; size = same.same_size; count = same.same_count; geometry = same.same_geometry }

    pub refused-names : (fault : ZoneFault) → (fault ≡ zones.Device → Rose (disks.faults old) (disks.faults new)) → LeavesNames disks old new span text what (Err (zone_fault fault))
    refused-names fault rose = record {
      any_moment = λ quiet sound. subst (λ (past : Option Past). LeavesOnly (disks.past old) past (IsEither span (now (disks.past old)) text what)) (sym same.same_past)
          (leaves_none (disks.past old) (IsEither span (now (disks.past old)) text what) (λ c left.
          let is : c ≡ now (disks.past old) = quiet c left in
          subst (λ (i : Image). IsEither span (now (disks.past old)) text what i) (sym is)
          (record { volume = sound.volume; is = sound.is; has = inl record { sound = sound.sound; same = λ p. refl } })));
      done = λ told. tt;
      quiet = tt;
      refused = λ is. same.same_past;
      outside = λ d s outside. subst (λ (past : Option Past). NotWritten (disks.past old) past d s) (sym same.same_past) (not_written_none (disks.past old) d s);
      goes_on = goes-on-from;
      cause = zone-cause (disks.faults old) (disks.faults new) fault rose;
    }

  -- ---- what was done with the volume

  module _ (volume new : Volume D disks) (same : SameOf disks old volume.disks.now) (later : disks.faults old ≤ faults_of volume) (place : span_view volume.span ≡ span)
      (is : Told (disks.past old) (λ now. volume_at now span ≡ Ok (volume_view volume))) where
    pub laid-told : IsWhole (disks.size_of old) (disks.past old) → span.start + span.count ≤ disks.size_of old span.disk → IsSuper (super_view volume.layout) volume.span.count
        → Told (past_of volume) (IsLaid (volume_view volume))
    laid-told whole on_disk super = subst (λ (past : Option Past). Told past (IsLaid (volume_view volume))) (sym same.same_past)
        (told-from (disks.past old) (IsLaid (volume_view volume)) (λ told.
        laid-at (disks.size_of old) (now (disks.past old)) span (volume_view volume) (told_now (disks.past old) (λ now. volume_at now span ≡ Ok (volume_view volume)) is told)
        (whole (now (disks.past old)) (at_now (disks.past old) told)) on_disk super))

    pub unwritten-at : {A : Type 0} (check : model.Volume → Image → Result A FileRefusal) → IsUnwritten (past_of volume) (past_of new) (volume_view volume) check
        → IsUnwrittenAt (disks.past old) (past_of new) span check
    unwritten-at check unwritten = told_both (disks.past old) (λ now. volume_at now span ≡ Ok (volume_view volume))
        (λ now. checked_status (sound_check check (volume_view volume) now) ≢ 0 → past_of new ≡ past_of volume) _
        (λ now at stays some. stays (λ none. some (ap checked_status (check-is check now span (volume_view volume) at) ∙ none)) ∙ same.same_past)
        is (subst (λ (past : Option Past). Told past (λ now. checked_status (sound_check check (volume_view volume) now) ≢ 0 → past_of new ≡ past_of volume)) same.same_past unwritten)

    module _ (result : Result (Unit {0}) FileFault) where
      pub answers-at : (check : model.Volume → Image → Result (List (List ℕ)) FileRefusal) → Told (past_of volume) (λ now. Answers (sound_check check (volume_view volume) now) result)
          → Told (disks.past old) (λ now. Answers (volume_check check now span) result)
      answers-at check told = told_both (disks.past old) (λ now. volume_at now span ≡ Ok (volume_view volume)) (λ now. Answers (sound_check check (volume_view volume) now) result)
          (λ now. Answers (volume_check check now span) result)
          (λ now at answers. subst (λ (given : Result (List (List ℕ)) FileRefusal). Answers given result) (sym (check-is check now span (volume_view volume) at)) answers)
          is (subst (λ (past : Option Past). Told past (λ now. Answers (sound_check check (volume_view volume) now) result)) same.same_past told)

      module _ (leaves : LeavesOn volume new text what result) where
        abbrev W : model.Volume
        W = volume_view volume

        at-now : IsTold (disks.past old) → volume_at (now (disks.past old)) span ≡ Ok W
        at-now told = told_now (disks.past old) (λ now. volume_at now span ≡ Ok W) is told

        same-held : now (past_of volume) ≡ now (disks.past old)
        same-held = ap now same.same_past

        goes-on-whole : GoesOn disks old new.disks.now
        goes-on-whole = goes_on_join disks old volume.disks.now new.disks.now (goes-on-from volume.disks.now same later) leaves.goes_on

        moment-of : IsTold (disks.past old) → IsQuiet (disks.past old) → HasSoundVolume span (now (disks.past old))
            → LeavesOnly (disks.past old) (past_of new) (IsEither span (now (disks.past old)) text what)
        moment-of told quiet sound =
            let volume-same : sound.volume ≡ W = let e = sym sound.is ∙ at-now told in cc in
            let here : IsSound W (now (past_of volume)) =
            subst (λ (i : Image). IsSound W i) (sym same-held) (subst (λ (v : model.Volume). IsSound v (now (disks.past old))) volume-same sound.sound) in
            let run = leaves.any_moment (subst IsQuiet (sym same.same_past) quiet) here in
            leaves_weaker (disks.past old) (past_of new) (HasEither W (now (past_of volume)) text what) (IsEither span (now (disks.past old)) text what)
            (subst (λ (past : Option Past). LeavesOnly past (past_of new) (HasEither W (now (past_of volume)) text what)) same.same_past run)
            (λ c has. record { volume = W; is = at-now told; has = subst (λ (i : Image). HasEither W i text what c) same-held has })

        moment-all : IsQuiet (disks.past old) → HasSoundVolume span (now (disks.past old)) → LeavesOnly (disks.past old) (past_of new) (IsEither span (now (disks.past old)) text what)
        moment-all quiet sound = by (told_or_not (disks.past old))
          where
            by : IsTold (disks.past old) ⊎ (IsTold (disks.past old) → ⊥) → LeavesOnly (disks.past old) (past_of new) (IsEither span (now (disks.past old)) text what)
            by (inl told) = moment-of told quiet sound
            by (inr none) = leaves-untold (disks.past old) (past_of new) (IsEither span (now (disks.past old)) text what) none (λ told. none (goes-on-whole.told_before told))

        named-at : (told : IsTold (disks.past old)) (r : Result (Unit {0}) FileFault) → OnOk r (HasNamed W (now (past_of volume)) text what (now (past_of new)))
            → OnOk r (IsNamed span (now (disks.past old)) text what (now (past_of new)))
        named-at told (Ok done) has = record { volume = W; is = at-now told; has = subst (λ (i : Image). HasNamed W i text what (now (past_of new))) same-held has }
        named-at told (Err fault) has = tt

        refused-at : (r : Result (Unit {0}) FileFault) → IfErr r (λ fault. is_refusal fault ≡ true → past_of new ≡ past_of volume) → IfErr r (λ fault. is_refusal fault ≡ true → past_of new ≡ disks.past old)
        refused-at (Ok done) refused = tt
        refused-at (Err fault) refused = λ why. refused why ∙ same.same_past

        pub leaves-at : LeavesNames disks old new.disks.now span text what result
        leaves-at = record {
          any_moment = moment-all;
          done = λ told. named-at told result (leaves.done (subst IsTold (sym same.same_past) told));
          quiet = leaves.quiet;
          refused = refused-at result leaves.refused;
          outside = λ d s outside. subst (λ (past : Option Past). NotWritten past (past_of new) d s) same.same_past
              (leaves.outside d s (subst (λ (at : Span). IsOutside at.disk at.start at.count d s) (sym place) outside));
          goes_on = goes-on-whole;
          cause = cause-up (disks.faults old) (faults_of volume) (faults_of new) later result leaves.cause;
        }

-- what holds of a value holds of another that is the same
pub held-of : {A : Type 0} (P : A → Type 0) (one : A) {other : A} → P one → one ≡ other → P other
held-of P one held same = subst P same held
