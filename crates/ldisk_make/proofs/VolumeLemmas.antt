-- A volume on a device: what is checked, and what is written.
use Rattle.std.proofs.Common.{◌≡◌, ◌≢◌, ◌≤◌, ◌+◌, ◌==◌, inl, inr, ℕ, Bool, true, false, ◌&&◌, Result, Ok, Err, Some, nat_le, nat_lt, refl, sym, ◌∙◌, ap, subst, arith}
use Rattle.std.specs.Prelude.{Option, None, IsSome, ok_or, OnOk, IfErr}
use Rattle.lilo_model.specs.Checks.{◌>>=◌}
use Rattle.std.proofs.lemmas.Bool.{eq-eqb, ne_eqb, leb-false, ltb-false}
use Rattle.disk_trait.specs.Range.{IsOutside}
use Rattle.disk_trait.specs.declared.disks.Span as declared
use Rattle.disk_trait.specs.Past.{Past, Told, now_of}
use Rattle.disk_trait.specs.Moments.{IsTold, now, IsWholeImage, LeavesOnly}
use Rattle.disk_trait.proofs.MomentLemmas.{leaves_none}
use Rattle.disk_trait.proofs.ToldLemmas.{told_map}
use Rattle.disk_trait.specs.NotWritten.{NotWritten}
use Rattle.lilo_model.specs.Devices as devices
use Rattle.lilo_model.specs.Disks.{Image, Machine, Span}
use Rattle.lilo_model.specs.MinixLayout.{Kind, Super}
use Rattle.lilo_model.specs.Partitions as model
use Rattle.lilo_model.specs.Partitions.{span_of}
use Rattle.ldisk_model.specs.MinixFormat.{format_layout, format_at}
use Rattle.ldisk_model.specs.Verdict as verdicts
use Rattle.ldisk_model.specs.Verdict.{status_of, place_check, mkfs_check, formatted_on, is_in, is_in_found}
use Rattle.mbr_table.specs.Gives.{Refuses}
use Rattle.mbr_table.specs.declared.table_fault.TableFault as tables
use Rattle.mbr_table.specs.declared.table_fault.TableFault.TheVariants as faults
use Rattle.minix_zones.specs.View.{span_view}
use Rattle.minix_format.specs.Laws.{IsEmptyVolume}
use Rattle.minix_format.specs.Left.{IsPartlyMade, LeftOrPartlyMade}
use Rattle.ldisk_make.specs.Answer.{Answers, Finds, IsPlaceFault, IsFormatted, is_refusal, HasMakeCause, HasEmptyVolume}
use Rattle.ldisk_make.specs.declared.fault.MakeFault.{MakeFault}
use Rattle.ldisk_make.specs.declared.fault.MakeFault.TheVariants.{Misplaced, NoPlace, NoSpace, Device}

-- ---- the place

pub place_absent : (now : Image) (machine : Machine) (device : devices.Device) → machine.size_of 0 ≡ 0
    → Finds (Err NoPlace) (place_check now machine device) (span_of now machine device)
unfolding place_check
place_absent now machine device none = rw none (refl, refl)

module _ (now : Image) (machine : Machine) (device : devices.Device) (some : machine.size_of 0 ≢ 0) where
  there : (machine.size_of 0 == 0) ≡ false
  there = ne_eqb (machine.size_of 0) 0 some

  pub place_found : (span : declared.Span) → span_of now machine device ≡ Ok (span_view span)
      → Finds (Ok span) (place_check now machine device) (span_of now machine device)
  unfolding place_check
  place_found span is = rw (there, is) (refl, refl)

  refused : (fault : model.TableFault) → span_of now machine device ≡ Err fault
      → Finds (Err NoPlace) (place_check now machine device) (span_of now machine device)
  unfolding place_check
  refused fault is = rw (there, is) (refl, refl)

  none : (fault : MakeFault) → fault ≡ NoPlace → Finds (Err NoPlace) (place_check now machine device) (span_of now machine device)
      → Finds (Err fault) (place_check now machine device) (span_of now machine device)
  none fault is found = subst (λ fault. Finds (Err fault) (place_check now machine device) (span_of now machine device)) (sym is) found

  pub place_refused : (fault : tables.TableFault) (told : MakeFault) → Refuses fault (span_of now machine device) → IsPlaceFault fault told
      → Finds (Err told) (place_check now machine device) (span_of now machine device)
  place_refused faults.Device told refuses is = subst (λ fault. Finds (Err fault) (place_check now machine device) (span_of now machine device)) (sym is) tt
  place_refused (faults.NoSignature n) told refuses is = none told is (refused (model.NoSignature n) refuses)
  place_refused (faults.OutsideDisk n) told refuses is = none told is (refused (model.OutsideDisk n) refuses)
  place_refused (faults.LoopedChain n) told refuses is = none told is (refused (model.LoopedChain n) refuses)
  place_refused faults.TooMany told refuses is = none told is (refused model.TooMany refuses)
  place_refused faults.UnknownDevice told refuses is = none told is (refused model.UnknownDevice refuses)
  place_refused (faults.NoPartition n) told refuses is = none told is (refused (model.NoPartition n) refuses)
  place_refused (faults.NoDisk n) told refuses is = none told is (refused (model.NoDisk n) refuses)

-- ---- the volume

module _ (now : Image) (machine : Machine) (device : devices.Device) (kind : Kind) (inodes : ℕ) where
  pub no_place : (fault : MakeFault) → Finds (Err fault) (place_check now machine device) (span_of now machine device)
      → Answers (mkfs_check now machine device kind inodes) (Err fault)
  unfolding mkfs_check
  no_place Misplaced (found, three) = absurd (omega (arith, found, three))
  no_place NoPlace (found, three) = by (place_check now machine device) three
    where
      by : (check : Result Span verdicts.Refusal) → status_of check ≡ 3 → status_of (check >>= λ span. ok_or (format_layout kind span.count inodes) verdicts.NoSpace >>= λ layout. Ok span) ≡ 3
      by (Ok span) is = absurd (omega (arith, is))
      by (Err refusal) is = is
  no_place NoSpace (found, three) = absurd (omega (arith, found, three))
  no_place Device found = tt

  module _ (span : declared.Span) (finds : Finds (Ok span) (place_check now machine device) (span_of now machine device)) where
    pub answered : (result : Result (Unit {0}) MakeFault) → IsFormatted (format_layout kind span.count inodes) result
        → Answers (mkfs_check now machine device kind inodes) result
    unfolding mkfs_check
    answered (Ok done) is = by (format_layout kind span.count inodes) refl is
      where
        by : (layout : Option Super) → format_layout kind span.count inodes ≡ layout → IsSome layout → status_of (mkfs_check now machine device kind inodes) ≡ 0
        by None e some = absurd cc
        by (Some layout) e some = rw (finds.0, e) refl
    answered (Err NoSpace) is = rw (finds.0, is) refl
    answered (Err Device) is = tt
    answered (Err Misplaced) is = elim is [ ]
    answered (Err NoPlace) is = elim is [ ]

    -- where a check refuses, the place being found, there is no room
    pub no_layout : status_of (mkfs_check now machine device kind inodes) ≢ 0 → format_layout kind span.count inodes ≡ None
    unfolding mkfs_check
    no_layout some = by (format_layout kind span.count inodes) refl
      where
        by : (layout : Option Super) → format_layout kind span.count inodes ≡ layout → format_layout kind span.count inodes ≡ None
        by None e = e
        by (Some layout) e = absurd (some (rw (finds.0, e) refl))

    pub formatted_here : (time : ℕ) (image : Image) → format_at (span_view span) kind inodes time now ≡ Some image
        → formatted_on (span_of now machine device) kind inodes time now ≡ Some image
    formatted_here time image is = rw finds.1 is

    pub empty_here : (image : Image) → IsEmptyVolume (span_view span) kind inodes image → HasEmptyVolume (span_of now machine device) kind inodes image
    empty_here image is = rw finds.1 is

    pub outside_here : (d s : ℕ) → is_in_found (span_of now machine device) d s ≡ false → IsOutside span.disk span.start span.count d s
    outside_here d s out = by (span.disk == d) (nat_le span.start s) (nat_lt s (span.start + span.count)) refl refl refl (rw finds.1 at out)
      where
        by : (a b c : Bool) → (span.disk == d) ≡ a → nat_le span.start s ≡ b → nat_lt s (span.start + span.count) ≡ c
            → ((span.disk == d) && nat_le span.start s && nat_lt s (span.start + span.count)) ≡ false → IsOutside span.disk span.start span.count d s
        by false b c e f g out = inl (λ same. let t = eq-eqb span.disk d (sym same) in cc)
        by true false c e f g out = inr (inl (leb-false span.start s f))
        by true true false e f g out = inr (inr (ltb-false s (span.start + span.count) g))
        by true true true e f g out = absurd (let no = rw (e, f, g) at out in cc)

-- ---- what the disks hold

is_told : (past : Past) → IsTold (Some past)
unfolding IsTold
is_told past = tt

held_now : (past : Past) → now (Some past) ≡ now_of past
unfolding now
held_now past = λ i d s. now_of past d s

module _ (machine : Machine) (device : devices.Device) (kind : Kind) (inodes : ℕ) (span : declared.Span) (old mid : Option Past) (same : mid ≡ old)
    (finds : Told old (λ held. Finds (Ok span) (place_check held machine device) (span_of held machine device))) where
  pub made_told : (time : ℕ) (image : Image) (result : Result (Unit {0}) MakeFault)
      → (IsTold mid → OnOk result (format_at (span_view span) kind inodes time (now mid) ≡ Some image))
      → OnOk result (Told old (λ held. formatted_on (span_of held machine device) kind inodes time held ≡ Some image))
  made_told time image (Err fault) made = tt
  made_told time image (Ok done) made = by old same finds
    where
      by : (old : Option Past) → mid ≡ old → Told old (λ held. Finds (Ok span) (place_check held machine device) (span_of held machine device))
          → Told old (λ held. formatted_on (span_of held machine device) kind inodes time held ≡ Some image)
      by None same finds = tt
      by (Some past) same finds =
          formatted_here (now_of past) machine device kind inodes span finds time image
          (subst (λ held. format_at (span_view span) kind inodes time held ≡ Some image) (ap now same ∙ held_now past) (made (subst IsTold (sym same) (is_told past))))

  pub empty_told : (size size_mid : ℕ → ℕ) (image : Image) (result : Result (Unit {0}) MakeFault) → size_mid ≡ size
      → (IsTold mid → IsWholeImage size_mid (now mid) → OnOk result (IsEmptyVolume (span_view span) kind inodes image))
      → OnOk result (Told old (λ held. IsWholeImage size held → HasEmptyVolume (span_of held machine device) kind inodes image))
  empty_told size size_mid image (Err fault) sizes made = tt
  empty_told size size_mid image (Ok done) sizes made = by old same finds
    where
      by : (old : Option Past) → mid ≡ old → Told old (λ held. Finds (Ok span) (place_check held machine device) (span_of held machine device))
          → Told old (λ held. IsWholeImage size held → HasEmptyVolume (span_of held machine device) kind inodes image)
      by None same finds = tt
      by (Some past) same finds = λ whole.
          empty_here (now_of past) machine device kind inodes span finds image
          (made (subst IsTold (sym same) (is_told past))
          (subst (λ held. IsWholeImage size_mid held) (sym (ap now same ∙ held_now past)) (subst (λ size. IsWholeImage size (now_of past)) (sym sizes) whole)))

  pub partly_told : (time : ℕ) (new : Option Past) → LeavesOnly mid new (LeftOrPartlyMade mid (format_at (span_view span) kind inodes time))
      → Told old (λ held. LeavesOnly old new (LeftOrPartlyMade old (formatted_on (span_of held machine device) kind inodes time)))
  partly_told time new leaves =
      told_map old (λ held. Finds (Ok span) (place_check held machine device) (span_of held machine device))
      (λ held. LeavesOnly old new (LeftOrPartlyMade old (formatted_on (span_of held machine device) kind inodes time)))
      (λ held found.
      let P : Option Past → Type 0 = λ past. LeavesOnly past new (LeftOrPartlyMade past (format_at (span_view span) kind inodes time)) in
      let R : Result Span model.TableFault → Type 0 = λ place. LeavesOnly old new (LeftOrPartlyMade old (formatted_on place kind inodes time)) in
      subst R (sym found.1) (subst P same leaves))
      finds

  pub unwritten_told : (new : Option Past) → (format_layout kind span.count inodes ≡ None → new ≡ mid)
      → Told old (λ held. status_of (mkfs_check held machine device kind inodes) ≢ 0 → new ≡ old)
  unwritten_told new stays =
      told_map old (λ held. Finds (Ok span) (place_check held machine device) (span_of held machine device))
      (λ held. status_of (mkfs_check held machine device kind inodes) ≢ 0 → new ≡ old)
      (λ held found some. stays (no_layout held machine device kind inodes span found some) ∙ same)
      finds

  pub outside_told : (new : Option Past) → ((d s : ℕ) → IsOutside span.disk span.start span.count d s → NotWritten mid new d s)
      → Told old (λ held. (d s : ℕ) → is_in_found (span_of held machine device) d s ≡ false → NotWritten old new d s)
  outside_told new outside = by old same finds
    where
      by : (old : Option Past) → mid ≡ old → Told old (λ held. Finds (Ok span) (place_check held machine device) (span_of held machine device))
          → Told old (λ held. (d s : ℕ) → is_in_found (span_of held machine device) d s ≡ false → NotWritten old new d s)
      by None same finds = tt
      by (Some past) same finds = λ d s out.
          subst (λ (p : Option Past). NotWritten p new d s) same (outside d s (outside_here (now_of past) machine device kind inodes span finds d s out))

-- where there was no event, a stop leaves what it left
pub partly_same : (old new : Option Past) (make : Image → Option Image) → new ≡ old → LeavesOnly old new (LeftOrPartlyMade old make)
partly_same old new make same =
    let P : Option Past → Type 0 = λ past. LeavesOnly old past (LeftOrPartlyMade old make) in
    subst P (sym same) (leaves_none old (LeftOrPartlyMade old make) (λ c left. (c, left, as-it-was (make c) c)))
  where
    as-it-was : (made : Option Image) (c : Image) → IsPartlyMade made c c
    as-it-was None c = refl
    as-it-was (Some made) c = λ d s. inl refl

pub refused_before : (old mid new : Option Past) (result : Result (Unit {0}) MakeFault) → mid ≡ old
    → IfErr result (λ fault. is_refusal fault ≡ true → new ≡ mid) → IfErr result (λ fault. is_refusal fault ≡ true → new ≡ old)
refused_before old mid new (Ok done) same refused = tt
refused_before old mid new (Err fault) same refused = λ is. refused is ∙ same

cause_by : (before mid now : ℕ) (fault : MakeFault) → before ≤ mid → HasMakeCause mid now fault → HasMakeCause before now fault
cause_by before mid now Misplaced later cause = tt
cause_by before mid now NoPlace later cause = tt
cause_by before mid now NoSpace later cause = tt
cause_by before mid now Device later cause = λ below. let rose = cause below in omega (arith, later, rose)

pub cause_before : (before mid now : ℕ) (result : Result (Unit {0}) MakeFault) → before ≤ mid
    → IfErr result (HasMakeCause mid now) → IfErr result (HasMakeCause before now)
cause_before before mid now (Ok done) later cause = tt
cause_before before mid now (Err fault) later cause = cause_by before mid now fault later cause
