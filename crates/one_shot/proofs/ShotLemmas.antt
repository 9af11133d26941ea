-- Where a line goes, and what a write there leaves after a read.
use Rattle.std.proofs.Common.{◌≡◌, ◌≤◌, ℕ, Bool, true, false, List, Result, Ok, Err, IsErr, refl, ap, arith}
use Rattle.lilo_model.specs.Faults.{Rose}
use Rattle.lilo_model.specs.Checks.{◌>>=◌}
use Rattle.lilo_model.specs.Disks.{Image, Machine, Span, DiskSector}
use Rattle.lilo_model.specs.BootSector.{BootSector, boot_at}
use Rattle.lilo_model.specs.LineShots as model
use Rattle.lilo_model.specs.LineShots.{shot_place, judged_boot}
use Rattle.lilo_model.specs.Checks.{with_fault}
use Rattle.lilo_model.specs.Slots.{AddressFault}
use Rattle.disk_trait.specs.declared.disks.Disks.{Ghosts}
use Rattle.disk_trait.specs.declared.disks.Phase.{Phase}
use Rattle.disk_trait.specs.declared.disks.Phase.TheVariants.{Commit}
use Rattle.disk_trait.specs.Calls.{SameOf, GoesOn}
use Rattle.boot_map.specs.declared.boot_sector.BootSector as declared
use Rattle.bios_model.specs.declared.bios.BiosFault.{BiosFault}
use Rattle.bios_model.specs.declared.bios.BiosFault.TheVariants as bios
use Rattle.bios_model.specs.Writes.{WritesFound}
use Rattle.bios_model.proofs.WriteLemmas.{made_as, refused_as, found_unwritten, goes_on_read, found_after}
use Rattle.one_shot.specs.declared.shot.ShotFault.{ShotFault}
use Rattle.one_shot.specs.declared.shot.ShotFault.TheVariants.{LineTooLong, NotOurs, BadTable, NotFound, Device}
use Rattle.one_shot.specs.Shot.{place_named, shot_by, IsFault, LostIn, Puts}

-- ---- the place

pub shot_is : (image : Image) (machine : Machine) (span : Span) (text bytes : List ℕ) → bytes ≡ image span.disk span.start
    → shot_place image machine span text ≡ shot_by machine bytes text
unfolding shot_place
shot_is image machine span text bytes is = rw is refl

module _ (machine : Machine) (bytes text : List ℕ) where
  abbrev behind : Result BootSector model.ShotFault → Result DiskSector model.ShotFault
  behind found = found >>= λ boot. place_named machine boot.line

  pub shot_at : (boot : BootSector) → judged_boot text (boot_at bytes) ≡ Ok boot → shot_by machine bytes text ≡ place_named machine boot.line
  shot_at boot judged = ap behind judged

  -- a fault of the boot sector or the text is the shot's
  pub fault_of : (fault : ShotFault) → ((phase : Phase) → (let result : Result declared.BootSector ShotFault = Err fault in result ≡ Err (Device phase)) → ⊥) → IsFault fault (judged_boot text (boot_at bytes)) → IsFault fault (shot_by machine bytes text)
  fault_of (LineTooLong size) never judged = ap behind judged
  fault_of NotOurs never judged = ap behind judged
  fault_of (BadTable entry) never judged = ap behind judged
  fault_of NotFound never judged = ap behind judged
  fault_of (Device phase) never judged = absurd (never phase refl)

-- ---- what is left

module _ {D : Type 0} (disks : Ghosts D) (old mid : D) (same : SameOf disks old mid) (later : disks.faults old ≤ disks.faults mid) (bytes : List ℕ) (found : Result DiskSector model.ShotFault) where
  pub puts_none : (fault : ShotFault) → IsFault fault found → (fault ≡ Device Commit → ⊥) → Puts disks old mid bytes found (Err fault)
  puts_none fault is before = record {
    answer = is;
    writes = found_unwritten disks old mid bytes found fault same later;
    lost = λ lost. absurd (before cc);
  }

  lost_after : (new : D) → LostIn disks mid new bytes found → LostIn disks old new bytes found
  lost_after new lost = record {
    before = lost.before;
    same = found_after disks old mid lost.before bytes same later {E = ShotFault} (Err NotFound) (Ok tt) lost.same;
    later = let next = lost.later in omega (arith, later, next);
    writes = lost.writes;
    rose = lost.rose;
  }

  pub puts_after : (new : D) (result : Result (Unit {0}) ShotFault) → Puts disks mid new bytes found result → Puts disks old new bytes found result
  puts_after new result call = record {
    answer = call.answer;
    writes = found_after disks old mid new bytes same later found result call.writes;
    lost = λ is. lost_after new (call.lost is);
  }

-- ---- what a write to a slot answers

-- a slot names no sector
abbrev pub says_lost : Result (Unit {0}) BiosFault → Bool
says_lost (Ok done) = false
says_lost (Err bios.NotFound) = true
says_lost (Err bios.Timeout) = false
says_lost (Err bios.KeysFault) = false
says_lost (Err bios.OutsideRam) = false

pub not_lost : (result : Result (Unit {0}) BiosFault) → says_lost result ≡ false → result ≡ Err bios.NotFound → ⊥
not_lost result other same = let lost : says_lost result ≡ true = ap says_lost same in cc

module _ {D : Type 0} (disks : Ghosts D) (old new : D) (bytes : List ℕ) where
  abbrev named : Result DiskSector AddressFault → Result DiskSector model.ShotFault
  named found = with_fault (λ fault. model.NotFound) found

  pub puts_made : (found : Result DiskSector AddressFault) → WritesFound {E = BiosFault} disks old new found bytes (Ok tt) → (IsErr found → ⊥) → Puts disks old new bytes (named found) (Ok tt)
  puts_made (Ok place) call there = record { answer = refl; writes = made_as disks old new place bytes call; lost = λ is. let h : ⊥ = cc in absurd h }
  puts_made (Err fault) call there = absurd (there refl)

  pub puts_lost : (found : Result DiskSector AddressFault) (error : BiosFault) → WritesFound disks old new found bytes (Err error) → IsErr found → Puts disks old new bytes (named found) (Err NotFound)
  puts_lost (Ok place) error call lost = let h : ⊥ = cc in absurd h
  puts_lost (Err fault) error same lost = record { answer = refl; writes = same; lost = λ is. let h : ⊥ = cc in absurd h }

  pub puts_failed :
      (found : Result DiskSector AddressFault) (error : BiosFault) → WritesFound disks old new found bytes (Err error) → (IsErr found → ⊥) → Rose (disks.faults old) (disks.faults new)
      → Puts disks old new bytes (named found) (Err (Device Commit))
  puts_failed (Ok place) error call there rose = record {
    answer = refl;
    writes = refused_as disks old new place bytes error (Device Commit) call;
    lost = λ is. record {
      before = old;
      same = record { same_past = refl; same_size = refl; same_count = refl; same_geometry = refl };
      later = omega arith;
      writes = refused_as disks old new place bytes error tt call;
      rose = rose;
    };
  }
  puts_failed (Err fault) error call there rose = absurd (there refl)

  pub goes_on_found : (found : Result DiskSector AddressFault) (result : Result (Unit {0}) BiosFault) → WritesFound disks old new found bytes result → disks.faults old ≤ disks.faults new → GoesOn disks old new
  goes_on_found (Ok place) result call later = call.writes.goes_on
  goes_on_found (Err fault) result same later = goes_on_read disks old new same later
