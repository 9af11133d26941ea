-- One sector of a bitmap, and one after the other.
use Rattle.std.proofs.Common.{◌≡◌, ◌≤◌, ◌<◌, ◌+◌, ◌-◌, ◌*◌, ◌/◌, ◌%◌, ◌&&◌, ◌⊎◌, ℕ, Bool, true, false, not, List, length, Option, Result, Ok, Err, OnOk, refl, sym, ◌∙◌, ap, subst, arith, inl, inr}
use Rattle.std.proofs.lemmas.Bool.{le-leb, lt-ltb}
use Rattle.disk_trait.specs.declared.disks.Disks.{Ghosts}
use Rattle.disk_trait.specs.Past.{Image, Past, Told, with_sector}
use Rattle.disk_trait.specs.Moments.{IsTold, now, MayLeave, LeftOrWritten, LeavesOnly}
use Rattle.disk_trait.specs.NotWritten.{NotWritten}
use Rattle.disk_trait.proofs.MomentLemmas.{at_now, left_told, leaves_none, leaves_weaker, told_now, here_is, with_same}
use Rattle.disk_trait.proofs.NotWrittenLemmas.{not_written_none}
use Rattle.lilo_model.specs.MinixParts.{sector_of, bit}
use Rattle.lilo_model.specs.MinixLayout.{Super, IsSuper}
use Rattle.minix_change_laws.specs.Beside.{IsOfBitmaps}
use Rattle.minix_layout.specs.View.{super_view}
use Rattle.minix_steps.specs.Free.{free_from}
use Rattle.minix_steps.proofs.RegionLemmas.{laid_super, sector_there, bitmap_there}
use Rattle.minix_survey.specs.declared.findings.Findings.{Findings}
use Rattle.minix_zones.specs.Volume.{volume_view, past_of, faults_of, SameVolume, HasDeviceCause, WritesSector}
use Rattle.minix_zones.specs.declared.volume.Volume.{Volume}
use Rattle.minix_zones.specs.declared.zone_fault.ZoneFault.{ZoneFault}
use Rattle.minix_zones.specs.declared.zone_fault.ZoneFault.TheVariants.{Device}
use Rattle.minix_zones.proofs.WriteLemmas.{keeps_same, goes_on_unchanged, sector_after}
use Rattle.minix_reclaim.specs.declared.bitmap.Bitmap.{Bitmap}
use Rattle.minix_reclaim.specs.Bitmap.{IsBitmapOf, is_used, IsNumberOf, sector_with, bit_with, marked, is_unused_on}
use Rattle.minix_reclaim.specs.Bits.{used_bits, is_dropped, is_unused_in, ClearsUnused}
use Rattle.minix_reclaim.specs.Cleared.{IsWasteBit, IsCleared, HasCleared}
use Rattle.minix_reclaim.specs.Frees.{IsWasteUnused, ClearsWaste, bits_in, first_in, FreesSector}
use Rattle.minix_reclaim.proofs.BitsLemmas.{few_free, none_counted, same_counted}
use Rattle.minix_reclaim.proofs.ClearedLemmas.{cleared_write, cleared_bytes}

-- ---- where a sector lies

pub map_range : (super : Super) (count : ℕ) → IsSuper super count → (bitmap : Bitmap) (index : ℕ) → IsBitmapOf super bitmap
    → bitmap.origin + 4096 * index < bitmap.end → IsOfBitmaps super (bitmap.sector + index)
map_range super count is bitmap index (inl of) inside =
    let P : Bitmap → Type 0 = λ b. b.origin + 4096 * index < b.end in
    let Q : Bitmap → Type 0 = λ b. IsOfBitmaps super (b.sector + index) in
    let lays = laid_super super count is in
    let here = subst P of inside in
    subst Q (sym of) (omega arith, omega (arith, here, lays.zmap, lays.first))
map_range super count is bitmap index (inr of) inside =
    let P : Bitmap → Type 0 = λ b. b.origin + 4096 * index < b.end in
    let Q : Bitmap → Type 0 = λ b. IsOfBitmaps super (b.sector + index) in
    let lays = laid_super super count is in
    let here = subst P of inside in
    subst Q (sym of) (omega arith, omega (arith, here, lays.imap))

pub map_there : (super : Super) (count : ℕ) → IsSuper super count → (bitmap : Bitmap) (index : ℕ) → IsBitmapOf super bitmap
    → bitmap.origin + 4096 * index < bitmap.end → bitmap.sector + index < count
map_there super count is bitmap index of inside =
    sector_there super count is (bitmap.sector + index) (bitmap_there super count is (bitmap.sector + index) (map_range super count is bitmap index of inside))

pub map_some : (super : Super) (count : ℕ) → IsSuper super count → (bitmap : Bitmap) → IsBitmapOf super bitmap → bitmap.origin < bitmap.end
map_some super count is bitmap (inl of) =
    let P : Bitmap → Type 0 = λ b. b.origin < b.end in
    let lays = laid_super super count is in
    subst P (sym of) (omega (arith, lays.first))
map_some super count is bitmap (inr of) = let P : Bitmap → Type 0 = λ b. b.origin < b.end in subst P (sym of) (omega arith)

-- ---- a call that changed nothing

pub clears_same : {D : Type 0} {disks : Ghosts D} (old new : Volume D disks) → SameVolume old new → (image : Image) → ClearsWaste old new image
clears_same old new same image =
    let P : Image → Type 0 = HasCleared (volume_view old) image in
    let L : Option Past → Type 0 = λ p. LeavesOnly (past_of old) p P in
    let N : Option Past → Type 0 = λ p. P (now p) in
    record {
      any_moment = λ before. subst L (sym same.same_disks.same_past) (leaves_none (past_of old) P before);
      after = λ told before. subst N (sym same.same_disks.same_past) before;
    }

untouched : {D : Type 0} {disks : Ghosts D} (old new : Volume D disks) → SameVolume old new → (d s : ℕ) → NotWritten (past_of old) (past_of new) d s
untouched old new same d s =
    let P : Option Past → Type 0 = λ p. NotWritten (past_of old) p d s in
    subst P (sym same.same_disks.same_past) (not_written_none (past_of old) d s)

pub sector_refused : {D : Type 0} {disks : Ghosts D} (old new : Volume D disks) (bitmap : Bitmap) (found : Findings) (index : ℕ) (fault : ZoneFault)
    → SameVolume old new → faults_of old ≤ faults_of new → HasDeviceCause {T = Unit {0}} old new Device (Err fault)
    → FreesSector old new bitmap found index (Err fault)
sector_refused old new bitmap found index fault same later device = record {
  clears = λ image waste. clears_same old new same image;
  freed = λ told. tt;
  count = λ told. tt;
  few = tt;
  others = λ d s other. untouched old new same d s;
  device = device;
  goes_on = goes_on_unchanged old new same later;
  kept = keeps_same old new same;
}

-- ---- the bits that were cleared in a sector

module _ {D : Type 0} {disks : Ghosts D} (old : Volume D disks) (bitmap : Bitmap) (found : Findings) (index : ℕ)
    (of : IsBitmapOf (super_view old.layout) bitmap) (inside : bitmap.origin + 4096 * index < bitmap.end)
    (mid : Volume D disks) (same : SameVolume old mid) (later : faults_of old ≤ faults_of mid)
    (base from to : ℕ) (base-is : base ≡ bitmap.origin + 4096 * index) (from-is : from ≡ first_in index - 4096 * index) (to-is : to ≡ bits_in bitmap (index + 1) - 4096 * index)
    (read put : List ℕ) (count : ℕ)
    (is : Told (past_of old) (λ now. read ≡ sector_of (volume_view old) now (bitmap.sector + index)))
    (long : length put ≡ 512) (clears : ClearsUnused (used_bits bitmap.of found base) from to read put count) where
  abbrev Sector : ℕ
  Sector = bitmap.sector + index

  range : IsOfBitmaps (super_view old.layout) Sector
  range = map_range (super_view old.layout) old.span.count old.whole bitmap index of inside

  bytes-now : IsTold (past_of old) → read ≡ sector_of (volume_view old) (now (past_of old)) Sector
  bytes-now told = let P : Image → Type 0 = λ i. read ≡ sector_of (volume_view old) i Sector in told_now (past_of old) P is told

  -- numbers of its bits
  its-sector : (at : ℕ) → at < 4096 → sector_with bitmap (base + at) ≡ Sector
  its-sector at small = let b = base-is in omega (arith, small, b)

  its-bit : (at : ℕ) → at < 4096 → bit_with bitmap (base + at) ≡ at
  its-bit at small = let b = base-is in omega (arith, small, b)

  its-number : (at : ℕ) → from ≤ at → at < to → IsNumberOf bitmap (base + at)
  its-number at low high = record { above = omega (arith, low, base-is, from-is); below = omega (arith, high, base-is, to-is) }

  its-mark : (image : Image) (at : ℕ) → at < 4096 → marked (volume_view old) image bitmap (base + at) ≡ bit (sector_of (volume_view old) image Sector) at
  its-mark image at small =
      ap (λ s. bit (sector_of (volume_view old) image s) (bit_with bitmap (base + at))) (its-sector at small)
      ∙ ap (bit (sector_of (volume_view old) image Sector)) (its-bit at small)

  of-waste : (image : Image) → IsWasteUnused (volume_view old) image bitmap found → (at : ℕ) → at < 4096 → from ≤ at → at < to
      → used_bits bitmap.of found base at ≡ false → bit (sector_of (volume_view old) image Sector) at ≡ true → IsWasteBit (volume_view old) image Sector at
  of-waste image waste at small low high unused set =
      let it = waste (base + at) (its-number at low high) (its-mark image at small ∙ set) unused in
      let S : ℕ → Type 0 = λ s. IsWasteBit (volume_view old) image s (bit_with bitmap (base + at)) in
      let B : ℕ → Type 0 = IsWasteBit (volume_view old) image Sector in
      subst B (its-bit at small) (subst S (its-sector at small) it)

  put-cleared : (image : Image) → IsWasteUnused (volume_view old) image bitmap found → IsTold (past_of old) → HasCleared (volume_view old) image (now (past_of old))
      → IsCleared (volume_view old) image Sector put
  put-cleared image waste told before =
      cleared_bytes (volume_view old) image (now (past_of old)) before Sector range (used_bits bitmap.of found base) from to read put count (bytes-now told) clears long
      (of-waste image waste)

  -- how many
  unused-at : IsTold (past_of old) → (k : ℕ) → k < to - from → is_unused_in (used_bits bitmap.of found base) read (from + k)
      ≡ is_unused_on (volume_view old) (now (past_of old)) bitmap found (bitmap.origin + first_in index + k)
  unused-at told k small =
      let within : from + k < 4096 = omega (arith, small, to-is) in
      let number : base + (from + k) ≡ bitmap.origin + first_in index + k = omega (arith, base-is, from-is) in
      let A : List ℕ → Bool = λ b. bit b (from + k) && not (used_bits bitmap.of found base (from + k)) in
      ap A (bytes-now told)
      ∙ ap (λ (b : Bool). b && not (used_bits bitmap.of found base (from + k))) (sym (its-mark (now (past_of old)) (from + k) within))
      ∙ ap (is_unused_on (volume_view old) (now (past_of old)) bitmap found) number

  wide : to - from ≡ bits_in bitmap (index + 1) - first_in index
  wide = omega (arith, from-is, to-is)

  counted : IsTold (past_of old) → count ≡ length (free_from (is_unused_on (volume_view old) (now (past_of old)) bitmap found) (bitmap.origin + first_in index) (bits_in bitmap (index + 1) - first_in index))
  counted told =
      clears.is
      ∙ same_counted (is_unused_in (used_bits bitmap.of found base) read) (is_unused_on (volume_view old) (now (past_of old)) bitmap found) from (bitmap.origin + first_in index) (to - from) (unused-at told)
      ∙ ap (λ n. length (free_from (is_unused_on (volume_view old) (now (past_of old)) bitmap found) (bitmap.origin + first_in index) n)) wide

  few : count ≤ bits_in bitmap (index + 1) - first_in index
  few = let most = few_free (is_unused_in (used_bits bitmap.of found base) read) from (to - from) in omega (arith, most, clears.is, wide)

  -- which number has which bit
  at-of : (n : ℕ) → IsNumberOf bitmap n → (n - bitmap.origin) / 4096 ≡ index → base + (n - bitmap.origin) % 4096 ≡ n
  at-of n number here = let above = number.above in omega (arith, above, here, base-is)

  at-from : (n : ℕ) → IsNumberOf bitmap n → (n - bitmap.origin) / 4096 ≡ index → from ≤ (n - bitmap.origin) % 4096
  at-from n number here = let above = number.above in omega (arith, above, here, from-is)

  at-to : (n : ℕ) → IsNumberOf bitmap n → (n - bitmap.origin) / 4096 ≡ index → (n - bitmap.origin) % 4096 < to
  at-to n number here = let below = number.below in omega (arith, below, here, to-is)

  -- its bit is clear where it has no use
  put-clear : (n : ℕ) → IsNumberOf bitmap n → (n - bitmap.origin) / 4096 ≡ index → is_used bitmap.of found n ≡ false → bit put ((n - bitmap.origin) % 4096) ≡ false
  put-clear n number here unused =
      let at : ℕ = (n - bitmap.origin) % 4096 in
      let none : used_bits bitmap.of found base at ≡ false = ap (is_used bitmap.of found) (at-of n number here) ∙ unused in
      clears.bits at (omega arith) ∙ by (bit read at) (rw (le-leb from at (at-from n number here), lt-ltb at to (at-to n number here), none) refl)
    where
      by : (b : Bool) → is_dropped (used_bits bitmap.of found base) from to ((n - bitmap.origin) % 4096) ≡ true → (b && not (is_dropped (used_bits bitmap.of found base) from to ((n - bitmap.origin) % 4096))) ≡ false
      by true is' = rw is' refl
      by false is' = refl

  -- ---- nothing was to be cleared

  module _ (none : count ≡ 0) where
    same-clear : IsTold (past_of old) → (n : ℕ) → IsNumberOf bitmap n → (n - bitmap.origin) / 4096 ≡ index → is_used bitmap.of found n ≡ false
        → marked (volume_view old) (now (past_of mid)) bitmap n ≡ false
    same-clear told n number here unused =
        let p = is_unused_on (volume_view old) (now (past_of old)) bitmap found in
        let zero = sym (counted told) ∙ none in
        let above = number.above in
        let below = number.below in
        let at = none_counted p (bitmap.origin + first_in index) (bits_in bitmap (index + 1) - first_in index) zero n (omega (arith, here, above)) (omega (arith, here, above, below)) in
        let M : Option Past → Type 0 = λ q. marked (volume_view old) (now q) bitmap n ≡ false in
        subst M (sym same.same_disks.same_past) (by (marked (volume_view old) (now (past_of old)) bitmap n) (is_used bitmap.of found n) at unused)
      where
        by : (m u : Bool) → (m && not u) ≡ false → u ≡ false → m ≡ false
        by true true a b = cc
        by true false a b = cc
        by false u a b = refl

    pub sector_same : FreesSector old mid bitmap found index (Ok count)
    sector_same = record {
      clears = λ image waste. clears_same old mid same image;
      freed = same-clear;
      count = counted;
      few = few;
      others = λ d s other. untouched old mid same d s;
      device = tt;
      goes_on = goes_on_unchanged old mid same later;
      kept = keeps_same old mid same;
    }

  -- ---- it was written

  module _ (new : Volume D disks) (result : Result (Unit {0}) ZoneFault) (wrote : WritesSector mid new Sector put Device result) where
    after : WritesSector old new Sector put Device result
    after = sector_after old mid new Sector put put Device result same later (λ told. refl) wrote

    left : (image : Image) → IsWasteUnused (volume_view old) image bitmap found → ((c : Image) → MayLeave (past_of old) c → HasCleared (volume_view old) image c)
        → (c : Image) → LeftOrWritten (past_of old) old.span.disk (old.span.start + Sector) put c → HasCleared (volume_view old) image c
    left image waste before c (b, may, inl stays) = let P : Image → Type 0 = HasCleared (volume_view old) image in subst P (sym stays) (before b may)
    left image waste before c (b, may, inr written) =
        let P : Image → Type 0 = HasCleared (volume_view old) image in
        let told : IsTold (past_of old) = left_told (past_of old) b may in
        subst P (sym written) (cleared_write (volume_view old) image b (before b may) Sector put
        (put-cleared image waste told (before (now (past_of old)) (at_now (past_of old) told))) range)

    made : (image : Image) → IsWasteUnused (volume_view old) image bitmap found → IsTold (past_of old) → HasCleared (volume_view old) image (now (past_of old))
        → HasCleared (volume_view old) image (now (past_of new))
    made image waste told before = by after.writes.made
      where
        by : (now (past_of new) ≡ with_sector (now (past_of old)) old.span.disk (old.span.start + Sector) put) ⊎ (now (past_of new) ≡ now (past_of old)) → HasCleared (volume_view old) image (now (past_of new))
        by (inl written) =
            let P : Image → Type 0 = HasCleared (volume_view old) image in
            subst P (sym written) (cleared_write (volume_view old) image (now (past_of old)) before Sector put (put-cleared image waste told before) range)
        by (inr stays) = let P : Image → Type 0 = HasCleared (volume_view old) image in subst P (sym stays) before

    clears-waste : (image : Image) → IsWasteUnused (volume_view old) image bitmap found → ClearsWaste old new image
    clears-waste image waste = record {
      any_moment = λ before. leaves_weaker (past_of old) (past_of new) (LeftOrWritten (past_of old) old.span.disk (old.span.start + Sector) put)
          (HasCleared (volume_view old) image) after.writes.any_moment (left image waste before);
      after = made image waste;
    }

    write-clear : IsTold (past_of old) → now (past_of new) ≡ with_sector (now (past_of old)) old.span.disk (old.span.start + Sector) put
        → (n : ℕ) → IsNumberOf bitmap n → (n - bitmap.origin) / 4096 ≡ index → is_used bitmap.of found n ≡ false
        → marked (volume_view old) (now (past_of new)) bitmap n ≡ false
    write-clear told written n number here unused =
        let there : sector_of (volume_view old) (now (past_of new)) (sector_with bitmap n) ≡ put =
        ap (λ (i : Image). i old.span.disk (old.span.start + sector_with bitmap n)) written
        ∙ with_same (now (past_of old)) old.span.disk (old.span.start + Sector) put old.span.disk (old.span.start + sector_with bitmap n)
        (here_is old.span.disk (old.span.start + Sector) old.span.disk (old.span.start + sector_with bitmap n) refl (omega (arith, here))) in
        ap (λ (b : List ℕ). bit b (bit_with bitmap n)) there ∙ put-clear n number here unused

    pub sector_written : result ≡ Ok tt → FreesSector old new bitmap found index (Ok count)
    sector_written ok = record {
      clears = clears-waste;
      freed = λ told. write-clear told (let W : Result (Unit {0}) ZoneFault → Type 0 = λ r. OnOk r (now (past_of new) ≡ with_sector (now (past_of old)) old.span.disk (old.span.start + Sector) put) in subst W ok (after.writes.written told));
      count = counted;
      few = few;
      others = after.writes.others;
      device = tt;
      goes_on = after.writes.goes_on;
      kept = after.kept;
    }

    pub sector_failed : (fault : ZoneFault) → result ≡ Err fault → FreesSector old new bitmap found index (Err fault)
    sector_failed fault err = record {
      clears = clears-waste;
      freed = λ told. tt;
      count = λ told. tt;
      few = tt;
      others = after.writes.others;
      device = let E : Result (Unit {0}) ZoneFault → Type 0 = HasDeviceCause old new Device in subst E err after.device;
      goes_on = after.writes.goes_on;
      kept = after.kept;
    }
