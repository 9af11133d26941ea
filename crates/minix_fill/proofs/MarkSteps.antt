-- What a call leaves that sets the bits of many zones.
use Rattle.std.proofs.Common.{◌≡◌, ◌≢◌, ◌≤◌, ◌<◌, ◌+◌, ◌*◌, ◌++◌, ℕ, List, [], length, take, drop, All, Option, Result, Ok, Err, OnOk, refl, sym, ap, ◌∙◌, subst, arith}
use Rattle.std.specs.Prelude.{◌-◌, slice_index}
use Rattle.std.proofs.Math.Seq.{take-append-add}
use Rattle.std.proofs.lemmas.List.{length-take-le, take-append-drop, take_rest, length-drop}
use Rattle.disk_trait.specs.declared.disks.Disks.{Ghosts}
use Rattle.disk_trait.specs.declared.disks.Span.{Span}
use Rattle.disk_trait.specs.Past.{Image, Past, Told}
use Rattle.disk_trait.specs.Moments.{IsTold, now, begun}
use Rattle.disk_trait.specs.NotWritten.{IsOther, NotWritten}
use Rattle.disk_trait.specs.Range.{IsOutside}
use Rattle.disk_trait.proofs.MomentLemmas.{told_now, on_ok}
use Rattle.disk_trait.proofs.NotWrittenLemmas.{not_written_none, not_written_join}
use Rattle.disk_trait.proofs.RangeLemmas.{outside_is_other}
use Rattle.lilo_model.specs.MinixParts as model
use Rattle.lilo_model.specs.MinixParts.{Parts, sector_of, parts_of, zone_mark_sector}
use Rattle.lilo_model.specs.MinixLayout.{super_sector}
use Rattle.minix_change_laws.specs.Beside.{Harmless, IsOfBitmaps}
use Rattle.minix_steps.proofs.BitmapLemmas.{fits}
use Rattle.minix_layout.specs.View.{super_view}
use Rattle.minix_layout.specs.declared.superblock.Super.{Super}
use Rattle.minix_steps.specs.Steps.{IsReady, Steps}
use Rattle.minix_steps.specs.Written.{parts_now}
use Rattle.minix_steps.proofs.HarmlessLemmas.{held}
use Rattle.minix_steps.proofs.RegionLemmas.{sector_there, zone_mark_in, bitmap_there}
use Rattle.minix_steps.proofs.StepLemmas.{same_view, no_step, after_step, steps_join}
use Rattle.minix_zones.specs.View.{IsDataZone}
use Rattle.minix_zones.specs.Volume.{volume_view, past_of, faults_of, SameVolume, HasDeviceCause, WritesSector}
use Rattle.minix_zones.specs.declared.volume.Volume.{Volume}
use Rattle.minix_zones.specs.declared.zone_fault.ZoneFault.{ZoneFault}
use Rattle.minix_zones.specs.declared.zone_fault.ZoneFault.TheVariants.{Device}
use Rattle.minix_zones.proofs.WriteLemmas.{cause_after, keeps_same, sector_after}
use Rattle.minix_fill.specs.Marks.{with_marks, AreTogether, ZonesMarked, IsOffZoneMap, MarksZones}
use Rattle.minix_fill.proofs.MarkLemmas.{AreIn, marked_none, marked_join, marked_here, marks_harmless}

-- ---- zones whose bits are together

pub are_in : (layout : Super) (zones : List ℕ) (sector : ℕ) → All (IsDataZone layout) zones → AreTogether (super_view layout) zones
    → sector ≡ zone_mark_sector (super_view layout) (slice_index zones 0) → AreIn (super_view layout) sector zones
are_in layout zones sector data_zones together is k d inside =
    let it = data_zones k d inside in ((it.from, it.below), together k d inside ∙ sym is)

-- they are in the bitmaps
pub marks_range : {D : Type 0} {disks : Ghosts D} (old : Volume D disks) (zones : List ℕ) (sector : ℕ) → 0 < length zones → All (IsDataZone old.layout) zones
    → sector ≡ zone_mark_sector (super_view old.layout) (slice_index zones 0) → IsOfBitmaps (super_view old.layout) sector
marks_range old zones sector some data_zones is =
    let it = data_zones 0 0 some in
    let S : ℕ → Type 0 = IsOfBitmaps (super_view old.layout) in
    subst S (sym is) (zone_mark_in (super_view old.layout) old.span.count old.whole (slice_index zones 0) it.below)

module _ {D : Type 0} {disks : Ghosts D} (old : Volume D disks) (ready : IsReady old) (zones : List ℕ) (sector : ℕ) (range : IsOfBitmaps (super_view old.layout) sector) where
  pub marks_inside : sector < 2 * old.layout.zones
  marks_inside = bitmap_there (super_view old.layout) old.span.count old.whole sector range

  pub marks_there : sector < old.span.count
  marks_there = sector_there (super_view old.layout) old.span.count old.whole sector marks_inside

  pub marks_no_super : sector ≢ super_sector
  marks_no_super same = omega (arith, range.0, same)

  module _ (mid : Volume D disks) (same : SameVolume old mid) (into put : List ℕ)
      (read : Told (past_of old) (λ now. into ≡ sector_of (volume_view old) now sector)) (is : put ≡ with_marks (super_view old.layout) into zones) where
    mid_told : IsTold (past_of mid) → IsTold (past_of old)
    mid_told told = subst IsTold same.same_disks.same_past told

    pub marks_inside_mid : sector < 2 * mid.layout.zones
    marks_inside_mid = let P : Super → Type 0 = λ layout. sector < 2 * layout.zones in subst P (sym same.same_layout) marks_inside

    pub put_is : IsTold (past_of old) → put ≡ with_marks (super_view old.layout) (sector_of (volume_view old) (now (past_of old)) sector) zones
    put_is told =
        let R : Image → Type 0 = λ now. into ≡ sector_of (volume_view old) now sector in
        is ∙ ap (λ (b : List ℕ). with_marks (super_view old.layout) b zones) (told_now (past_of old) R read told)

    pub marks_harmless_mid : IsTold (past_of mid) → Harmless (volume_view mid) (begun (past_of mid)) sector put
    marks_harmless_mid told =
        let before : IsTold (past_of old) = mid_told told in
        let harmless = marks_harmless (volume_view old) (begun (past_of old)) sector (ready.sound before) range zones
        (sector_of (volume_view old) (now (past_of old)) sector) (held old ready sector marks_inside before) in
        let B : List ℕ → Type 0 = Harmless (volume_view old) (begun (past_of old)) sector in
        let V : model.Volume → Type 0 = λ view. Harmless view (begun (past_of old)) sector put in
        let H : Option Past → Type 0 = λ p. Harmless (volume_view mid) (begun p) sector put in
        subst H (sym same.same_disks.same_past) (subst V (sym (same_view old mid (keeps_same old mid same))) (subst B (sym (put_is before)) harmless))

    -- the zone bitmap alone is written
    module _ (within : AreIn (super_view old.layout) sector zones) (some : 0 < length zones) (new : Volume D disks) (result : Result (Unit {0}) ZoneFault) (later : faults_of old ≤ faults_of mid) where
      off_sector : (d s : ℕ) → IsOffZoneMap old d s → IsOther old.span.disk (old.span.start + sector) d s
      off_sector d s off =
          let head = within 0 0 some in
          let known = fits (super_view old.layout) old.span.count old.whole.passes in
          let start : ℕ = old.span.start + 2 * (2 + old.layout.imap) in
          let at : sector ≡ 2 * (2 + old.layout.imap) + (sector - 2 * (2 + old.layout.imap)) = omega (arith, head.1) in
          let low : sector - 2 * (2 + old.layout.imap) < 2 * old.layout.zmap = omega (arith, head.1, head.0.0, head.0.1, known.zmap_fits) in
          let S : ℕ → Type 0 = λ n. IsOther old.span.disk n d s in
          let same_place : start + (sector - 2 * (2 + old.layout.imap)) ≡ old.span.start + sector = omega (arith, at) in
          subst S same_place (outside_is_other old.span.disk start (2 * old.layout.zmap) (sector - 2 * (2 + old.layout.imap)) d s low off)

      pub marks_written : Steps mid new → WritesSector mid new sector put Device result → MarksZones old new zones result
      marks_written steps writes =
          let bytes : List ℕ = with_marks (super_view old.layout) (sector_of (volume_view old) (now (past_of old)) sector) zones in
          let after = sector_after old mid new sector put bytes Device result same later put_is writes in
          let all = after_step old mid new ready same later steps in
          record {
            steps = all;
            marked = λ told. on_ok result _ _ (after.writes.written told) (λ written.
                let I : Image → Type 0 = λ i. ZonesMarked (volume_view old) (parts_now old) (parts_of (volume_view old) i) zones in
                let V : model.Volume → Type 0 = λ view. ZonesMarked (volume_view old) (parts_now old) (parts_of view (now (past_of new))) zones in
                subst V (sym (same_view old new all.kept)) (subst I (sym written)
                (marked_here (volume_view old) old.whole sector zones (now (past_of old)) within (held old ready sector marks_inside told).long)));
            same_begun = after.same_begun;
            others = λ d s off. after.writes.others d s (off_sector d s off);
            device = after.device;
          }

-- a call was refused that wrote nothing
pub marks_refused : {D : Type 0} {disks : Ghosts D} (old new : Volume D disks) (zones : List ℕ) (result : Result (Unit {0}) ZoneFault) → IsReady old
    → ((P : Type 0) → OnOk result P) → SameVolume old new → faults_of old ≤ faults_of new → HasDeviceCause old new Device result → MarksZones old new zones result
marks_refused old new zones result ready refused same later device =
    let past : past_of new ≡ past_of old = same.same_disks.same_past in
    record {
      steps = no_step old new ready same later;
      marked = λ told. refused _;
      same_begun = ap begun past;
      others = λ d s off. let P : Option Past → Type 0 = λ p. NotWritten (past_of old) p d s in subst P (sym past) (not_written_none (past_of old) d s);
      device = device;
    }

-- nothing was to be set
pub marks_start : {D : Type 0} {disks : Ghosts D} (old : Volume D disks) → IsReady old → MarksZones old old [] (Ok tt)
marks_start old ready =
    let same : SameVolume old old = record {
      same_disks = record { same_past = refl; same_size = refl; same_count = refl; same_geometry = refl };
      same_span = refl;
      same_layout = refl;
      same_reference = refl;
    } in
    record {
      steps = no_step old old ready same (omega arith);
      marked = λ told. marked_none (volume_view old) (parts_now old);
      same_begun = refl;
      others = λ d s off. not_written_none (past_of old) d s;
      device = tt;
    }

-- of a call that was refused it isn't said which bits are set
pub marks_failed : {D : Type 0} {disks : Ghosts D} (old new : Volume D disks) (xs ys : List ℕ) (fault : ZoneFault) → MarksZones old new xs (Err fault) → MarksZones old new ys (Err fault)
marks_failed old new xs ys fault call = record { steps = call.steps; marked = λ told. tt; same_begun = call.same_begun; others = call.others; device = call.device }

-- the zones from one on, and the first zones with some of them
abbrev pub rest_of : List ℕ → ℕ → List ℕ
rest_of zones at = take (length zones - at) (drop at zones)

pub rest_length : (zones : List ℕ) (at : ℕ) → length (rest_of zones at) ≡ length zones - at
rest_length zones at = ap length (take_rest zones at) ∙ length-drop at zones

pub take_further : (zones : List ℕ) (at many : ℕ) → at ≤ length zones → take at zones ++ take many (rest_of zones at) ≡ take (at + many) zones
take_further zones at many within =
    let T : ℕ → List ℕ = λ n. take (n + many) (take at zones ++ drop at zones) in
    let R : List ℕ → List ℕ = λ rest. take at zones ++ take many rest in
    ap R (take_rest zones at)
    ∙ sym (take-append-add (take at zones) (drop at zones) many)
    ∙ ap T (length-take-le at zones within)
    ∙ ap (take (at + many)) (take-append-drop at zones)

-- one call after another
pub marks_join : {D : Type 0} {disks : Ghosts D} (old mid new : Volume D disks) (xs ys : List ℕ) (result : Result (Unit {0}) ZoneFault) → IsReady old
    → MarksZones old mid xs (Ok tt) → MarksZones mid new ys result → MarksZones old new (xs ++ ys) result
marks_join old mid new xs ys result ready one two =
    let kept = one.steps.kept in
    record {
      steps = steps_join old mid new ready one.steps two.steps;
      marked = λ told. on_ok result _ _ (two.marked (one.steps.goes_on.told told)) (λ marked.
          let V : model.Volume → Type 0 = λ view. ZonesMarked view (parts_now mid) (parts_now new) ys in
          marked_join (volume_view old) (parts_now old) (parts_now mid) (parts_now new) xs ys (one.marked told) (subst V (same_view old mid kept) marked));
      same_begun = two.same_begun ∙ one.same_begun;
      others = λ d s off.
          let S : Span → Type 0 = λ span. IsOutside span.disk (span.start + 2 * (2 + old.layout.imap)) (2 * old.layout.zmap) d s in
          let L : Super → Type 0 = λ layout. IsOutside mid.span.disk (mid.span.start + 2 * (2 + layout.imap)) (2 * layout.zmap) d s in
          not_written_join (past_of old) (past_of mid) (past_of new) d s (one.others d s off)
          (two.others d s (subst L (sym kept.same_layout) (subst S (sym kept.same_span) off)));
      device = cause_after old mid new Device result one.steps.goes_on.later two.device;
    }
