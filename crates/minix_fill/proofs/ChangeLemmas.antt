-- Calls in a row that change parts of a volume.
use Rattle.std.proofs.Common.{◌≡◌, ◌≤◌, ◌<◌, ◌+◌, ◌*◌, ◌-◌, ℕ, List, Option, Result, Ok, Err, OnOk, IfErr, sym, ap, ◌∙◌, subst, arith}
use Rattle.disk_trait.specs.declared.disks.Disks.{Ghosts}
use Rattle.disk_trait.specs.declared.disks.Span.{Span}
use Rattle.disk_trait.specs.Past.{Image, Past}
use Rattle.disk_trait.specs.Moments.{IsTold, now}
use Rattle.disk_trait.specs.NotWritten.{IsOther, NotWritten}
use Rattle.disk_trait.specs.Range.{IsOutside}
use Rattle.disk_trait.proofs.MomentLemmas.{on_ok}
use Rattle.disk_trait.proofs.CallLemmas.{on_ok_held}
use Rattle.disk_trait.proofs.NotWrittenLemmas.{not_written_none, not_written_join}
use Rattle.disk_trait.proofs.RangeLemmas.{outside_is_other}
use Rattle.lilo_model.specs.MinixParts as model
use Rattle.lilo_model.specs.MinixParts.{Parts}
use Rattle.minix_change_laws.specs.Beside.{IsOfBitmaps}
use Rattle.minix_layout.specs.View.{super_view}
use Rattle.minix_layout.specs.declared.superblock.Super.{Super}
use Rattle.minix_steps.specs.Steps.{IsReady, Steps}
use Rattle.minix_steps.specs.Written.{parts_now}
use Rattle.minix_steps.proofs.StepLemmas.{same_view, no_step, steps_join}
use Rattle.minix_zones.specs.View.{HasZoneCause}
use Rattle.minix_zones.specs.Volume.{volume_view, past_of, faults_of, KeepsVolume, SameVolume, HasDeviceCause, WritesSector, Syncs}
use Rattle.minix_zones.specs.declared.volume.Volume.{Volume}
use Rattle.minix_zones.specs.declared.zone_fault.ZoneFault.{ZoneFault}
use Rattle.minix_zones.specs.declared.zone_fault.ZoneFault.TheVariants.{Layout, ZoneOutside, Device}
use Rattle.minix_zones.proofs.WriteLemmas.{cause_after, keeps_same}
use Rattle.minix_fill.specs.Changes.{Changes, IsOffMaps}

-- ---- causes

pub cause_later : (first mid last : ℕ) (result : Result (Unit {0}) ZoneFault) → first ≤ mid → IfErr result (HasZoneCause mid last) → IfErr result (HasZoneCause first last)
cause_later first mid last (Ok done) before cause = tt
cause_later first mid last (Err (Layout fault)) before cause = cause
cause_later first mid last (Err (ZoneOutside zone)) before cause = tt
cause_later first mid last (Err Device) before cause = λ below. let rose = cause (omega (arith, before, below)) in omega (arith, before, rose)

pub cause_of : {D : Type 0} {disks : Ghosts D} (old new : Volume D disks) (result : Result (Unit {0}) ZoneFault) → HasDeviceCause old new Device result → IfErr result (HasZoneCause (faults_of old) (faults_of new))
cause_of old new (Ok done) cause = tt
cause_of old new (Err fault) cause = let P : ZoneFault → Type 0 = HasZoneCause (faults_of old) (faults_of new) in subst P (sym cause.0) cause.1

-- ---- parts

pub same_parts : {D : Type 0} {disks : Ghosts D} (old new : Volume D disks) → SameVolume old new → parts_now new ≡ parts_now old
same_parts old new same =
    let P : Option Past → Parts = λ past. model.parts_of (volume_view new) (now past) in
    let V : model.Volume → Parts = λ view. model.parts_of view (now (past_of old)) in
    ap P same.same_disks.same_past ∙ ap V (same_view old new (keeps_same old new same))

-- ---- sectors

module _ {D : Type 0} {disks : Ghosts D} (old : Volume D disks) where
  pub off_maps_kept : (mid : Volume D disks) → KeepsVolume old mid → (d s : ℕ) → IsOffMaps old d s → IsOffMaps mid d s
  off_maps_kept mid kept d s off =
      let S : Span → Type 0 = λ span. IsOutside span.disk (span.start + 4) (2 * (old.layout.imap + old.layout.zmap)) d s in
      let L : Super → Type 0 = λ layout. IsOutside mid.span.disk (mid.span.start + 4) (2 * (layout.imap + layout.zmap)) d s in
      subst L (sym kept.same_layout) (subst S (sym kept.same_span) off)

  pub off_map : (sector : ℕ) → IsOfBitmaps (super_view old.layout) sector → (d s : ℕ) → IsOffMaps old d s → IsOther old.span.disk (old.span.start + sector) d s
  off_map sector range d s off =
      let start : ℕ = old.span.start + 4 in
      let low : sector - 4 < 2 * (old.layout.imap + old.layout.zmap) = omega (arith, range.0, range.1) in
      let same_place : start + (sector - 4) ≡ old.span.start + sector = omega (arith, range.0) in
      let S : ℕ → Type 0 = λ n. IsOther old.span.disk n d s in
      subst S same_place (outside_is_other old.span.disk start (2 * (old.layout.imap + old.layout.zmap)) (sector - 4) d s low off)

-- ---- one call

module _ {D : Type 0} {disks : Ghosts D} (old new : Volume D disks) (Off : ℕ → ℕ → Type 0) (P : model.Volume → Parts → Parts → Type 0) (result : Result (Unit {0}) ZoneFault) where
  pub changes_sector : (sector : ℕ) (bytes : List ℕ) → Steps old new → WritesSector old new sector bytes Device result
      → (IsTold (past_of old) → OnOk result (P (volume_view old) (parts_now old) (parts_now new)))
      → ((d s : ℕ) → Off d s → IsOther old.span.disk (old.span.start + sector) d s) → Changes old new Off P result
  changes_sector sector bytes steps writes parts off = record {
    steps = steps;
    changed = parts;
    others = λ d s is. writes.writes.others d s (off d s is);
    device = λ told. writes.device;
    cause = cause_of old new result writes.device;
  }

  pub changes_weaker : (Less : ℕ → ℕ → Type 0) → ((d s : ℕ) → Less d s → Off d s) → Changes old new Off P result → Changes old new Less P result
  changes_weaker Less weaker call = record {
    steps = call.steps;
    changed = call.changed;
    others = λ d s is. call.others d s (weaker d s is);
    device = call.device;
    cause = call.cause;
  }

  pub changes_as : (Q : model.Volume → Parts → Parts → Type 0) → (IsTold (past_of old) → P (volume_view old) (parts_now old) (parts_now new) → Q (volume_view old) (parts_now old) (parts_now new))
      → Changes old new Off P result → Changes old new Off Q result
  changes_as Q so call = record {
    steps = call.steps;
    changed = λ told. on_ok result _ _ (call.changed told) (so told);
    others = call.others;
    device = call.device;
    cause = call.cause;
  }

-- what a refused call changed isn't said
pub changes_failed : {D : Type 0} {disks : Ghosts D} (old new : Volume D disks) (Off : ℕ → ℕ → Type 0) (P Q : model.Volume → Parts → Parts → Type 0) (fault : ZoneFault)
    → Changes old new Off P (Err fault) → Changes old new Off Q (Err fault)
changes_failed old new Off P Q fault call = record { steps = call.steps; changed = λ told. tt; others = call.others; device = call.device; cause = call.cause }

abbrev pub SameParts : model.Volume → Parts → Parts → Type 0
SameParts view old new = new ≡ old

-- a flush changes nothing
pub changes_flush : {D : Type 0} {disks : Ghosts D} (old new : Volume D disks) (Off : ℕ → ℕ → Type 0) (result : Result (Unit {0}) ZoneFault)
    → Steps old new → Syncs old new Device result → Changes old new Off SameParts result
changes_flush old new Off result steps syncs = record {
  steps = steps;
  changed = λ told. on_ok_held result _
      (let I : Image → Parts = λ image. model.parts_of (volume_view new) image in
      let V : model.Volume → Parts = λ view. model.parts_of view (now (past_of old)) in
      ap I syncs.flushes.same_now ∙ ap V (same_view old new steps.kept));
  others = λ d s off. syncs.flushes.untouched d s;
  device = λ told. syncs.device;
  cause = cause_of old new result syncs.device;
}

-- nor does a call that wrote nothing
pub changes_none : {D : Type 0} {disks : Ghosts D} (old new : Volume D disks) (Off : ℕ → ℕ → Type 0) (result : Result (Unit {0}) ZoneFault)
    → IsReady old → SameVolume old new → faults_of old ≤ faults_of new
    → (IsTold (past_of old) → HasDeviceCause old new Device result) → IfErr result (HasZoneCause (faults_of old) (faults_of new)) → Changes old new Off SameParts result
changes_none old new Off result ready same later device cause = record {
  steps = no_step old new ready same later;
  changed = λ told. on_ok_held result _ (same_parts old new same);
  others = λ d s off. let N : Option Past → Type 0 = λ p. NotWritten (past_of old) p d s in subst N (sym same.same_disks.same_past) (not_written_none (past_of old) d s);
  device = device;
  cause = cause;
}

-- ---- two calls

module _ {D : Type 0} {disks : Ghosts D} (old mid new : Volume D disks) (Off : ℕ → ℕ → Type 0) (P Q R : model.Volume → Parts → Parts → Type 0) (result : Result (Unit {0}) ZoneFault) where
  pub changes_join : IsReady old → Changes old mid Off P (Ok tt) → Changes mid new Off Q result
      → (IsTold (past_of old) → P (volume_view old) (parts_now old) (parts_now mid) → Q (volume_view old) (parts_now mid) (parts_now new) → R (volume_view old) (parts_now old) (parts_now new))
      → Changes old new Off R result
  changes_join ready one two so = record {
    steps = steps_join old mid new ready one.steps two.steps;
    changed = λ told. on_ok result _ _ (two.changed (one.steps.goes_on.told told)) (λ changed.
        let V : model.Volume → Type 0 = λ view. Q view (parts_now mid) (parts_now new) in
        so told (one.changed told) (subst V (same_view old mid one.steps.kept) changed));
    others = λ d s off. not_written_join (past_of old) (past_of mid) (past_of new) d s (one.others d s off) (two.others d s off);
    device = λ told. cause_after old mid new Device result one.steps.goes_on.later (two.device (one.steps.goes_on.told told));
    cause = cause_later (faults_of old) (faults_of mid) (faults_of new) result one.steps.goes_on.later two.cause;
  }
