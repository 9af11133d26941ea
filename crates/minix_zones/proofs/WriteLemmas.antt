-- A written sector of a volume: after a call that only read, and with the error of another call.
use Rattle.std.proofs.Common.{◌≡◌, ◌≤◌, ◌+◌, ℕ, List, Result, Ok, Err, OnOk, refl, ◌∙◌, ap, subst, arith}
use Rattle.disk_trait.specs.declared.disks.Disks.{Ghosts}
use Rattle.disk_trait.specs.declared.disks.Span.{Span}
use Rattle.disk_trait.specs.Past.{with_sector}
use Rattle.disk_trait.specs.Moments.{IsTold, now, begun}
use Rattle.disk_trait.specs.Calls.{GoesOn, Writes}
use Rattle.disk_trait.proofs.CallLemmas.{goes_on_same, writes_none, writes_after, writes_as}
use Rattle.minix_zones.specs.Volume.{past_of, faults_of, KeepsVolume, SameVolume, HasDeviceCause, WritesSector}
use Rattle.minix_zones.specs.declared.volume.Volume.{Volume}

pub keeps_same : {D : Type 0} {disks : Ghosts D} (old new : Volume D disks) → SameVolume old new → KeepsVolume old new
keeps_same old new same = record { same_span = same.same_span; same_layout = same.same_layout; same_reference = same.same_reference }

pub keeps_join : {D : Type 0} {disks : Ghosts D} (old mid new : Volume D disks) → KeepsVolume old mid → KeepsVolume mid new → KeepsVolume old new
keeps_join old mid new first next = record {
  same_span = next.same_span ∙ first.same_span;
  same_layout = next.same_layout ∙ first.same_layout;
  same_reference = next.same_reference ∙ first.same_reference;
}

pub goes_on_unchanged : {D : Type 0} {disks : Ghosts D} (old new : Volume D disks) → SameVolume old new → faults_of old ≤ faults_of new → GoesOn disks old.disks.now new.disks.now
goes_on_unchanged {disks} old new same later = goes_on_same disks old.disks.now new.disks.now same.same_disks.same_past record {
  later = later;
  size = same.same_disks.same_size;
  count = same.same_disks.same_count;
  geometry = same.same_disks.same_geometry;
}

-- a call refused after one that changed nothing
pub cause_after : {D T E : Type 0} {disks : Ghosts D} (old mid new : Volume D disks) (error : E) (result : Result T E)
    → faults_of old ≤ faults_of mid → HasDeviceCause mid new error result → HasDeviceCause old new error result
cause_after old mid new error (Ok value) before cause = tt
cause_after old mid new error (Err fault) before cause = (cause.0, λ below. let rose = cause.1 below in omega (arith, before, rose))

module _ {D : Type 0} {disks : Ghosts D} (old new : Volume D disks) (sector : ℕ) (bytes : List ℕ) where
  -- the same call, with another error
  module _ {E F : Type 0} (error : E) (other : F) where
    answered : (result : Result (Unit {0}) E) (answer : Result (Unit {0}) F)
        → (IsTold (past_of old) → OnOk answer (now (past_of new) ≡ with_sector (now (past_of old)) old.span.disk (old.span.start + sector) bytes))
        → HasDeviceCause old new other answer → WritesSector old new sector bytes error result → WritesSector old new sector bytes other answer
    answered result answer written device call = record {
      writes = record {
        written = written;
        made = call.writes.made;
        left = call.writes.left;
        any_moment = call.writes.any_moment;
        others = call.writes.others;
        goes_on = call.writes.goes_on;
      };
      same_begun = call.same_begun;
      device = device;
      kept = call.kept;
    }

    pub sector_made : WritesSector {E = E} old new sector bytes error (Ok tt) → WritesSector {E = F} old new sector bytes other (Ok tt)
    sector_made call = answered (Ok tt) (Ok tt) call.writes.written tt call

    pub sector_failed : (fault : E) → WritesSector old new sector bytes error (Err fault) → WritesSector old new sector bytes other (Err other)
    sector_failed fault call = answered (Err fault) (Err other) (λ told. tt) (refl, call.device.1) call

  -- a call before was refused, and nothing was written
  pub sector_refused : {E : Type 0} (error : E) (result : Result (Unit {0}) E) → ((P : Type 0) → OnOk result P) → SameVolume old new → faults_of old ≤ faults_of new
      → HasDeviceCause old new error result → WritesSector old new sector bytes error result
  sector_refused error (Ok done) refused same later device = absurd (refused ⊥)
  sector_refused error (Err fault) refused same later device = record {
    writes = writes_none disks old.disks.now new.disks.now old.span.disk (old.span.start + sector) bytes fault same.same_disks.same_past record {
      later = later;
      size = same.same_disks.same_size;
      count = same.same_disks.same_count;
      geometry = same.same_disks.same_geometry;
    };
    same_begun = ap begun same.same_disks.same_past;
    device = device;
    kept = keeps_same old new same;
  }

-- bytes that were made of those that were read
pub sector_after : {D E : Type 0} {disks : Ghosts D} (old mid new : Volume D disks) (sector : ℕ) (from bytes : List ℕ) (error : E) (result : Result (Unit {0}) E)
    → SameVolume old mid → faults_of old ≤ faults_of mid → (IsTold (past_of old) → from ≡ bytes)
    → WritesSector mid new sector from error result → WritesSector old new sector bytes error result
sector_after {disks} old mid new sector from bytes error result same later is call = record {
  writes = writes_as disks old.disks.now new.disks.now old.span.disk (old.span.start + sector) from bytes result is
      (writes_after disks old.disks.now mid.disks.now new.disks.now old.span.disk (old.span.start + sector) from result same.same_disks.same_past
      (goes_on_unchanged old mid same later)
      (subst (λ (span : Span). Writes disks mid.disks.now new.disks.now span.disk (span.start + sector) from result) same.same_span call.writes));
  same_begun = call.same_begun ∙ ap begun same.same_disks.same_past;
  device = cause_after old mid new error result later call.device;
  kept = keeps_join old mid new (keeps_same old mid same) call.kept;
}
