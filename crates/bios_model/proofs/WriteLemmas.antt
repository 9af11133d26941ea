-- The first sector of a slot, written and made durable.
use Rattle.std.proofs.Common.{◌≡◌, ◌<◌, ◌≤◌, ℕ, List, Result, Ok, Err, inl, inr, ⊎_elim, refl, ◌∙◌, ap, arith}
use Rattle.disk_trait.specs.declared.disks.Disks.{Ghosts}
use Rattle.disk_trait.specs.Past.{Image, with_sector}
use Rattle.disk_trait.specs.Moments.{now, begun, IsQuiet, LeftOrWritten}
use Rattle.disk_trait.specs.Calls.{GoesOn, SameOf, Writes, EndsWithFlush}
use Rattle.disk_trait.proofs.MomentLemmas.{leaves_weaker}
use Rattle.disk_trait.proofs.CallLemmas.{goes_on_same, writes_none, writes_after, no_flush}
use Rattle.lilo_model.specs.Checks.{with_fault}
use Rattle.lilo_model.specs.Disks.{Machine, DiskSector}
use Rattle.lilo_model.specs.Slots.{Slot, AddressFault, sector_at, place_at, NotFound}
use Rattle.bios_model.specs.Writes.{WithOrWithout, WritesPlace, WritesFound}

-- ---- the place

module _ (machine : Machine) (slot : Slot) where
  pub named_place : (number : ℕ) → Ok number ≡ sector_at (machine.geometry_of slot.disk) slot 0 → number < machine.size_of slot.disk
      → place_at machine slot 0 ≡ Ok (record { disk = slot.disk; sector = number })
  unfolding place_at
  named_place number is inside = rw (← is) (grind (arith, inside))

  pub no_place_past : (number : ℕ) → Ok number ≡ sector_at (machine.geometry_of slot.disk) slot 0 → machine.size_of slot.disk ≤ number
      → place_at machine slot 0 ≡ Err NotFound
  unfolding place_at
  no_place_past number is past = rw (← is) (grind (arith, past))

  pub no_place_named : (fault : AddressFault) → Err fault ≡ sector_at (machine.geometry_of slot.disk) slot 0 → place_at machine slot 0 ≡ Err fault
  unfolding place_at
  no_place_named fault is = rw (← is) refl

-- ---- what is left

module _ {D : Type 0} (disks : Ghosts D) where
  module _ (old new : D) (place : DiskSector) (bytes : List ℕ) where
    -- from a quiet moment a write leaves what was held, or that with the sector
    one-or-other : IsQuiet (disks.past old) → (c : Image) → LeftOrWritten (disks.past old) place.disk place.sector bytes c → WithOrWithout (now (disks.past old)) place bytes c
    one-or-other quiet c left =
        let was : left.0 ≡ now (disks.past old) = quiet left.0 left.1 in
        ⊎_elim
        (λ same. inl (same ∙ was))
        (λ written. inr (written ∙ ap (λ (i : Image). with_sector i place.disk place.sector bytes) was))
        left.2

    pub writes_place : {E : Type 0} (result : Result (Unit {0}) E) → Writes disks old new place.disk place.sector bytes result → EndsWithFlush disks old new result → WritesPlace disks old new place bytes result
    writes_place result writes flushed = record {
      old_or_new = λ quiet. leaves_weaker (disks.past old) (disks.past new) _ (WithOrWithout (now (disks.past old)) place bytes) writes.any_moment (one-or-other quiet);
      writes = writes;
      flushed = flushed;
    }

    -- the same where faults have other names
    pub made_as : {E F : Type 0} → WritesPlace {E = E} disks old new place bytes (Ok tt) → WritesPlace {E = F} disks old new place bytes (Ok tt)
    made_as call = record {
      old_or_new = call.old_or_new;
      writes = record {
        written = call.writes.written;
        made = call.writes.made;
        left = call.writes.left;
        any_moment = call.writes.any_moment;
        others = call.writes.others;
        goes_on = call.writes.goes_on;
      };
      flushed = record { quiet = call.flushed.quiet; durable = call.flushed.durable; failed = tt };
    }

    pub refused_as : {E F : Type 0} (error : E) (named : F) → WritesPlace disks old new place bytes (Err error) → WritesPlace disks old new place bytes (Err named)
    refused_as error named call = record {
      old_or_new = call.old_or_new;
      writes = record {
        written = λ told. tt;
        made = call.writes.made;
        left = call.writes.left;
        any_moment = call.writes.any_moment;
        others = call.writes.others;
        goes_on = call.writes.goes_on;
      };
      flushed = record { quiet = tt; durable = tt; failed = call.flushed.failed };
    }

  module _ (old new : D) (bytes : List ℕ) where
    -- the same where faults have other names
    pub found_as : {E F G : Type 0} (found : Result DiskSector F) (told : F → G) (result : Result (Unit {0}) E)
        → WritesFound disks old new found bytes result → WritesFound disks old new (with_fault told found) bytes result
    found_as (Ok place) told result call = call
    found_as (Err fault) told result same = same

    pub found_made_as : (E G : Type 0) {F : Type 0} (found : Result DiskSector F) → WritesFound {E = E} disks old new found bytes (Ok tt) → WritesFound {E = G} disks old new found bytes (Ok tt)
    found_made_as E G (Ok place) call = made_as old new place bytes call
    found_made_as E G (Err fault) same = same

    pub found_refused_as : {E F G : Type 0} (found : Result DiskSector F) (error : E) (named : G)
        → WritesFound disks old new found bytes (Err error) → WritesFound disks old new found bytes (Err named)
    found_refused_as (Ok place) error named call = refused_as old new place bytes error named call
    found_refused_as (Err fault) error named same = same

    -- a call that only read was refused before the write
    pub found_unwritten : {E F : Type 0} (found : Result DiskSector F) (error : E) → SameOf disks old new → disks.faults old ≤ disks.faults new
        → WritesFound disks old new found bytes (Err error)
    found_unwritten (Ok place) error same later =
        writes_place old new place bytes (Err error)
        (writes_none disks old new place.disk place.sector bytes error same.same_past (record { later = later; size = same.same_size; count = same.same_count; geometry = same.same_geometry }))
        (no_flush disks old new error (ap begun same.same_past))
    found_unwritten (Err fault) error same later = same

  -- a write after a call that only read
  pub goes_on_read : (old mid : D) → SameOf disks old mid → disks.faults old ≤ disks.faults mid → GoesOn disks old mid
  goes_on_read old mid same later = goes_on_same disks old mid same.same_past (record { later = later; size = same.same_size; count = same.same_count; geometry = same.same_geometry })

  module _ (old mid new : D) (bytes : List ℕ) (same : SameOf disks old mid) (later : disks.faults old ≤ disks.faults mid) where
    flushed-after : {E : Type 0} (result : Result (Unit {0}) E) → EndsWithFlush disks mid new result → EndsWithFlush disks old new result
    flushed-after (Ok done) flushed = record { quiet = flushed.quiet; durable = flushed.durable; failed = tt }
    flushed-after (Err fault) flushed = record { quiet = tt; durable = tt; failed = flushed.failed ∙ ap begun same.same_past }

    pub found_after : {E F : Type 0} (found : Result DiskSector F) (result : Result (Unit {0}) E) → WritesFound disks mid new found bytes result → WritesFound disks old new found bytes result
    found_after (Ok place) result call =
        writes_place old new place bytes result
        (writes_after disks old mid new place.disk place.sector bytes result same.same_past (goes_on_read old mid same later) call.writes)
        (flushed-after result call.flushed)
    found_after (Err fault) result next = record {
      same_past = next.same_past ∙ same.same_past;
      same_size = next.same_size ∙ same.same_size;
      same_count = next.same_count ∙ same.same_count;
      same_geometry = next.same_geometry ∙ same.same_geometry;
    }
