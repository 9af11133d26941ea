-- What is written of a line is read by the next boot.
use Rattle.std.proofs.Common.{◌≡◌, ◌≤◌, ◌∙◌, ℕ, inl, inr, Bool, true, false, List, [], ◌∷◌, length, Result, Ok, Err, refl, ap, arith}
use Rattle.std.specs.Prelude.{nat_le}
use Rattle.std.proofs.lemmas.Bool.Decides.{nat_tests}
use Rattle.disk_trait.specs.NotWritten.{IsOther}
use Rattle.disk_trait.specs.Past.{with_sector}
use Rattle.disk_trait.proofs.MomentLemmas.{here, here_is, with_same, with_other}
use Rattle.lilo_model.specs.Checks.{◌>>=◌, with_fault}
use Rattle.lilo_model.specs.Disks.{Machine, DiskSector}
use Rattle.lilo_model.specs.BootSector as maps
use Rattle.lilo_model.specs.BootSector.{BootSector, MapFault, boot_at}
use Rattle.lilo_model.specs.Boot.{slot_bytes_at, present_line}
use Rattle.lilo_model.specs.LineSector.{line_bytes}
use Rattle.lilo_model.specs.LineShots as model
use Rattle.lilo_model.specs.LineShots.{shot_line, shot_place, judged_boot, length_check}
use Rattle.lilo_model.specs.Slots.{AddressFault, place_at}
use Rattle.map_again_laws.specs.Fits.{IsLine}
use Rattle.map_again_laws.proofs.Texts.{line_again}
use Rattle.map_laws.specs.ShotLines.{ShotIsReadLaw}

-- where a line has a place, its boot sector was read, and it isn't too long
record IsPlaced (machine : Machine) (text : List ℕ) (found : Result BootSector MapFault) (place : DiskSector) : Type 0 where
  boot : BootSector
  is : found ≡ Ok boot
  short : length text ≤ 255
  named : place_at machine boot.line 0 ≡ Ok place

named_by : (found : Result DiskSector AddressFault) (place : DiskSector) → with_fault (λ fault. model.NotFound) found ≡ Ok place → found ≡ Ok place
named_by (Ok other) place is = let same : other ≡ place = cc in ap (λ p. Ok p) same
named_by (Err fault) place is = let h : ⊥ = cc in absurd h

module _ (machine : Machine) (text : List ℕ) (place : DiskSector) where
  placed_by :
      (short : Bool) (boot : BootSector) → nat_le (length text) 255 ≡ short
      → (judged_boot text (Ok boot) >>= λ boot. with_fault (λ fault. model.NotFound) (place_at machine boot.line 0)) ≡ Ok place
      → IsPlaced machine text (Ok boot) place
  placed_by true boot fits is = record {
    boot = boot;
    is = refl;
    short = grind (arith, nat_tests);
    named = named_by (place_at machine boot.line 0) place (rw fits at is);
  }
  placed_by false boot fits is = let other = rw fits at is in absurd cc

  bad_by :
      (short : Bool) (entry : ℕ) → nat_le (length text) 255 ≡ short
      → (judged_boot text (Err (maps.BadTable entry)) >>= λ boot. with_fault (λ fault. model.NotFound) (place_at machine boot.line 0)) ≡ Ok place
      → ⊥
  bad_by true entry fits is = let other = rw fits at is in cc
  bad_by false entry fits is = let other = rw fits at is in cc

  placed :
      (found : Result BootSector MapFault)
      → (judged_boot text found >>= λ boot. with_fault (λ fault. model.NotFound) (place_at machine boot.line 0)) ≡ Ok place
      → IsPlaced machine text found place
  placed (Ok boot) is = placed_by (nat_le (length text) 255) boot refl is
  placed (Err (maps.BadTable entry)) is = absurd (bad_by (nat_le (length text) 255) entry refl is)
  placed (Err maps.NotOurs) is = let h : ⊥ = cc in absurd h
  placed (Err (maps.BadVersion version)) is = let h : ⊥ = cc in absurd h
  placed (Err maps.BadLine) is = let h : ⊥ = cc in absurd h

allowed : (text : List ℕ) → length text ≤ 255 → IsLine (shot_line text)
allowed [] short = tt
allowed (byte ∷ text) short = (omega arith, short)

elsewhere : (disk sector d s : ℕ) → IsOther disk sector d s → here disk sector d s ≡ false
elsewhere disk sector d s (inl other) = grind (arith, nat_tests, other)
elsewhere disk sector d s (inr other) = grind (arith, nat_tests, other)

pub shot_is_read_law : ShotIsReadLaw
unfolding shot_place present_line slot_bytes_at
shot_is_read_law now machine span text place is other =
    let found = placed machine text place (boot_at (now span.disk span.start)) is in
    let bytes = line_bytes (shot_line text) in
    let same : with_sector now place.disk place.sector bytes span.disk span.start ≡ now span.disk span.start =
    with_other now place.disk place.sector bytes span.disk span.start (elsewhere place.disk place.sector span.disk span.start other) in
    let there : with_sector now place.disk place.sector bytes place.disk place.sector ≡ bytes =
    with_same now place.disk place.sector bytes place.disk place.sector (here_is place.disk place.sector place.disk place.sector refl refl) in
    record {
      boot = found.boot;
      read = ap boot_at same ∙ found.is;
      held = let named = found.named in rw (named, there, line_again (shot_line text) (allowed text found.short)) refl;
    }
