-- Images in which bits of waste are clear.
use Rattle.std.proofs.Common.{◌≡◌, ◌≢◌, ◌≤◌, ◌<◌, ◌+◌, ◌*◌, ◌/◌, ◌%◌, ◌==◌, ◌&&◌, ◌⊎◌, ℕ, Bool, true, false, not, List, length, refl, sym, ◌∙◌, ap, subst, arith, inl, inr}
use Rattle.std.specs.Prelude.{nat_le, nat_lt}
use Rattle.std.proofs.lemmas.Bool.{cases_lt, cases_eq, and_parts, leb-true, ltb-true, and_right, ne_eqb}
use Rattle.disk_trait.specs.Past.{with_sector}
use Rattle.disk_trait.proofs.MomentLemmas.{here_is, with_same}
use Rattle.lilo_model.specs.Disks.{Image}
use Rattle.lilo_model.specs.MinixLayout.{table_start}
use Rattle.lilo_model.specs.MinixNames.{HasSound, IsSound}
use Rattle.lilo_model.specs.MinixParts.{Volume, Pointer, sector_of, bit, inode_mark_sector, zone_bit, zone_mark_sector, parts_of}
use Rattle.ldisk_model.specs.Waste.{IsWasteZone, IsWasteInode, HasZoneBit, HasInodeBit, IsKeptOrFreed}
use Rattle.minix_change_laws.specs.Beside.{NamedIn, RefersIn, IsOfZone, Harmless, IsOfBitmaps, Beside, SoundAsIn}
use Rattle.minix_change_laws.proofs.Beside.{lies, same-beside, beside_law}
use Rattle.minix_change_laws.proofs.Laid.{Laid, mark-below, zone_mark-from, place-from}
use Rattle.minix_reclaim.specs.Bits.{is_dropped, ClearsUnused}
use Rattle.minix_reclaim.specs.Cleared.{IsWasteBit, IsCleared, IsOffBitmaps, HasCleared}
use Rattle.minix_reclaim.specs.Laws.{ReclaimingLaw}

zone-of : (zone sector : ℕ) → IsOfZone zone sector → zone ≡ sector / 2
zone-of zone sector (inl is) = omega (arith, is)
zone-of zone sector (inr is) = omega (arith, is)

module _ (volume : Volume) (old : Image) (sound : HasSound volume old) where
  abbrev Lies : Laid volume.layout
  Lies = lies volume old sound

  -- ---- which bits are those of waste

  zone-by : (zone : ℕ) → HasZoneBit volume.layout zone → (was is : Bool)
      → IsKeptOrFreed was is (IsWasteBit volume old (zone_mark_sector volume.layout zone) (zone_bit volume.layout zone % 4096))
      → IsKeptOrFreed was is (IsWasteZone volume.layout (parts_of volume old) zone)
  zone-by zone has was is (inl same) = inl same
  zone-by zone has was is (inr (clear, inl waste)) =
      let there = waste.there in
      let bits = waste.is in
      let from = waste.waste.from in
      let equal : waste.zone ≡ zone = omega (arith, there, bits, from) in
      let P : ℕ → Type 0 = IsWasteZone volume.layout (parts_of volume old) in
      inr (clear, subst P equal waste.waste)
  zone-by zone has was is (inr (clear, inr waste)) =
      let there = waste.there in
      let low = mark-below volume.layout Lies waste.number waste.waste.there in
      let from = zone_mark-from volume.layout Lies zone in
      absurd (omega (arith, there, low, from))

  inode-by : (number : ℕ) → HasInodeBit volume.layout number → (was is : Bool)
      → IsKeptOrFreed was is (IsWasteBit volume old (inode_mark_sector number) (number % 4096))
      → IsKeptOrFreed was is (IsWasteInode volume.layout (parts_of volume old) number)
  inode-by number has was is (inl same) = inl same
  inode-by number has was is (inr (clear, inl waste)) =
      let there = waste.there in
      let from = zone_mark-from volume.layout Lies waste.zone in
      absurd (omega (arith, there, from, has))
  inode-by number has was is (inr (clear, inr waste)) =
      let there = waste.there in
      let bits = waste.is in
      let equal : waste.number ≡ number = omega (arith, there, bits) in
      let P : ℕ → Type 0 = IsWasteInode volume.layout (parts_of volume old) in
      inr (clear, subst P equal waste.waste)

  module _ (image : Image) (cleared : HasCleared volume old image) where
    zones-kept : (zone : ℕ) → HasZoneBit volume.layout zone
        → IsKeptOrFreed ((parts_of volume old).has_zone zone) ((parts_of volume image).has_zone zone) (IsWasteZone volume.layout (parts_of volume old) zone)
    unfolding parts_of
    zones-kept zone has =
        let inside : IsOfBitmaps volume.layout (zone_mark_sector volume.layout zone) = (omega arith, omega (arith, has)) in
        zone-by zone has _ _ ((cleared.bitmaps (zone_mark_sector volume.layout zone) inside).bits (zone_bit volume.layout zone % 4096) (omega arith))

    inodes-kept : (number : ℕ) → HasInodeBit volume.layout number
        → IsKeptOrFreed ((parts_of volume old).has_inode number) ((parts_of volume image).has_inode number) (IsWasteInode volume.layout (parts_of volume old) number)
    unfolding parts_of
    inodes-kept number has =
        let inside : IsOfBitmaps volume.layout (inode_mark_sector number) = (omega arith, omega (arith, has)) in
        inode-by number has _ _ ((cleared.bitmaps (inode_mark_sector number) inside).bits (number % 4096) (omega arith))

    -- ---- harmless bytes

    mark-stays : (sector number : ℕ) → NamedIn volume old number → inode_mark_sector number ≡ sector
        → IsKeptOrFreed (bit (sector_of volume old sector) (number % 4096)) (bit (sector_of volume image sector) (number % 4096)) (IsWasteBit volume old sector (number % 4096))
        → bit (sector_of volume image sector) (number % 4096) ≡ true
    unfolding parts_of
    mark-stays sector number named is (inl same) =
        same ∙ ap (λ n. bit (sector_of volume old n) (number % 4096)) (sym is) ∙ sound.parts.marked number named
    mark-stays sector number named is (inr (clear, inl waste)) =
        let there = waste.there in
        let low = mark-below volume.layout Lies number (sound.parts.in_range number named).1 in
        let from = zone_mark-from volume.layout Lies waste.zone in
        absurd (omega (arith, there, is, low, from))
    mark-stays sector number named is (inr (clear, inr waste)) =
        let there = waste.there in
        let bits = waste.is in
        let equal : number ≡ waste.number = omega (arith, there, is, bits) in
        let P : ℕ → Type 0 = NamedIn volume old in
        absurd (waste.waste.unnamed (subst P equal named))

    zone-mark-stays : (sector number : ℕ) (at : Pointer) (zone : ℕ) → RefersIn volume old number at zone → zone_mark_sector volume.layout zone ≡ sector
        → IsKeptOrFreed (bit (sector_of volume old sector) (zone_bit volume.layout zone % 4096)) (bit (sector_of volume image sector) (zone_bit volume.layout zone % 4096)) (IsWasteBit volume old sector (zone_bit volume.layout zone % 4096))
        → bit (sector_of volume image sector) (zone_bit volume.layout zone % 4096) ≡ true
    unfolding parts_of
    zone-mark-stays sector number at zone refers is (inl same) =
        same ∙ ap (λ n. bit (sector_of volume old n) (zone_bit volume.layout zone % 4096)) (sym is) ∙ sound.parts.zone_marked number at zone refers
    zone-mark-stays sector number at zone refers is (inr (clear, inl waste)) =
        let there = waste.there in
        let bits = waste.is in
        let from = waste.waste.from in
        let low = (sound.parts.zone_range number at zone refers).0 in
        let equal : zone ≡ waste.zone = omega (arith, there, is, bits, from, low) in
        let P : ℕ → Type 0 = RefersIn volume old number at in
        absurd (waste.waste.unused number at (subst P equal refers))
    zone-mark-stays sector number at zone refers is (inr (clear, inr waste)) =
        let there = waste.there in
        let low = mark-below volume.layout Lies waste.number waste.waste.there in
        let from = zone_mark-from volume.layout Lies zone in
        absurd (omega (arith, there, is, low, from))

    bitmap-harmless : (sector : ℕ) → IsOfBitmaps volume.layout sector → Harmless volume old sector (sector_of volume image sector)
    bitmap-harmless sector range =
        let here = cleared.bitmaps sector range in
        let table = Lies.table in
        record {
          long = here.long;
          super = λ e. absurd (omega (arith, e, range.0));
          nodes = λ number named e. absurd (omega (arith, e, range.1, place-from volume.layout Lies number));
          zones = λ number at zone refers e.
              let low = (sound.parts.zone_range number at zone refers).0 in
              let of : zone ≡ sector / 2 = zone-of zone sector e in
              absurd (omega (arith, range.1, table, of, low));
          marks = λ number named e. mark-stays sector number named e (here.bits (number % 4096) (omega arith));
          zone_marks = λ number at zone refers e. zone-mark-stays sector number at zone refers e (here.bits (zone_bit volume.layout zone % 4096) (omega arith));
        }

    same-sector : (sector : ℕ) → sector < 2 * volume.layout.zones → IsOffBitmaps volume volume.span.disk (volume.span.start + sector)
        → Harmless volume old sector (sector_of volume image sector)
    same-sector sector below off =
        let P : List ℕ → Type 0 = Harmless volume old sector in
        subst P (sym (cleared.others volume.span.disk (volume.span.start + sector) off)) ((same-beside volume old sound).inside sector below)

    harmless : (sector : ℕ) → sector < 2 * volume.layout.zones → Harmless volume old sector (sector_of volume image sector)
    harmless sector below = by (cases_lt sector 4) (cases_lt sector (2 * table_start volume.layout))
      where
        by : (sector < 4) ⊎ (4 ≤ sector) → (sector < 2 * table_start volume.layout) ⊎ (2 * table_start volume.layout ≤ sector) → Harmless volume old sector (sector_of volume image sector)
        by (inl low) other = same-sector sector below (inr (inl (omega (arith, low))))
        by (inr from) (inl low) = bitmap-harmless sector (from, low)
        by (inr from) (inr high) = same-sector sector below (inr (inr (omega (arith, high))))

    cleared-beside : Beside volume old image
    cleared-beside = record { inside = harmless; outside = λ disk sector out. cleared.others disk sector (off disk sector out) }
      where
        off : (disk sector : ℕ) → (disk ≢ volume.span.disk) ⊎ ((sector < volume.span.start) ⊎ (volume.span.start + 2 * volume.layout.zones ≤ sector)) → IsOffBitmaps volume disk sector
        off disk sector (inl apart) = inl apart
        off disk sector (inr (inl low)) = inr (inl (omega (arith, low)))
        off disk sector (inr (inr high)) = inr (inr (omega (arith, high, Lies.table, Lies.first)))

-- nothing was cleared yet
pub cleared_none : (volume : Volume) (old : Image) → IsSound volume old → HasCleared volume old old
unfolding IsSound
cleared_none volume old sound =
    let lays = lies volume old sound in
    record {
      bitmaps = λ sector range. record { long = sound.whole sector (omega (arith, range.1, lays.table, lays.first)); bits = λ at small. inl refl };
      others = λ d s off. refl;
    }

pub reclaiming_law : ReclaimingLaw
unfolding IsSound
reclaiming_law volume old image sound cleared =
    let kept : SoundAsIn volume old image = beside_law volume old image sound (cleared-beside volume old sound image cleared) in
    record {
      sound = kept.sound;
      same = kept.same;
      zones = zones-kept volume old sound image cleared;
      inodes = inodes-kept volume old sound image cleared;
    }

-- ---- one more sector

module _ (volume : Volume) (old image : Image) (cleared : HasCleared volume old image) (sector : ℕ) (bytes : List ℕ) (is : IsCleared volume old sector bytes) where
  abbrev Written : Image
  Written = with_sector image volume.span.disk (volume.span.start + sector) bytes

  elsewhere : (d s : ℕ) → (d ≢ volume.span.disk) ⊎ (s ≢ volume.span.start + sector) → Written d s ≡ image d s
  elsewhere d s (inl apart) = rw (ne_eqb volume.span.disk d (λ e. apart (sym e))) refl
  elsewhere d s (inr apart) = rw (and_right (volume.span.disk == d) (volume.span.start + sector == s) (ne_eqb (volume.span.start + sector) s (λ e. apart (sym e)))) refl

  bitmaps-by : (other : ℕ) → IsOfBitmaps volume.layout other → (other ≡ sector) ⊎ (other ≢ sector) → IsCleared volume old other (sector_of volume Written other)
  bitmaps-by other range (inl same) =
      let P : ℕ → Type 0 = λ n. IsCleared volume old n bytes in
      let Q : List ℕ → Type 0 = IsCleared volume old other in
      let there : sector_of volume Written other ≡ bytes = with_same image volume.span.disk (volume.span.start + sector) bytes volume.span.disk (volume.span.start + other)
      (here_is volume.span.disk (volume.span.start + sector) volume.span.disk (volume.span.start + other) refl (omega (arith, same))) in
      subst Q (sym there) (subst P (sym same) is)
  bitmaps-by other range (inr apart) =
      let Q : List ℕ → Type 0 = IsCleared volume old other in
      subst Q (sym (elsewhere volume.span.disk (volume.span.start + other) (inr (λ e. apart (omega (arith, e)))))) (cleared.bitmaps other range)

  off-by : (d s : ℕ) → IsOfBitmaps volume.layout sector → IsOffBitmaps volume d s → (d ≢ volume.span.disk) ⊎ (s ≢ volume.span.start + sector)
  off-by d s range (inl apart) = inl apart
  off-by d s range (inr (inl low)) = inr (λ e. omega (arith, e, low, range.0))
  off-by d s range (inr (inr high)) = inr (λ e. omega (arith, e, high, range.1))

  pub cleared_write : IsOfBitmaps volume.layout sector → HasCleared volume old Written
  cleared_write range = record {
    bitmaps = λ other inside. bitmaps-by other inside (cases_eq other sector);
    others = λ d s off. elsewhere d s (off-by d s range off) ∙ cleared.others d s off;
  }

-- ---- bits without a use

module _ (volume : Volume) (image now : Image) (cleared : HasCleared volume image now) (sector : ℕ) (range : IsOfBitmaps volume.layout sector)
    (used : ℕ → Bool) (from to : ℕ) (read bytes : List ℕ) (count : ℕ) (is : read ≡ sector_of volume now sector) (clears : ClearsUnused used from to read bytes count) where
  abbrev There : ℕ → Type 0
  There = IsWasteBit volume image sector

  with-dropped : (was old new dropped : Bool) (at : ℕ) → new ≡ (old && not dropped) → IsKeptOrFreed was old (There at) → (dropped ≡ true → was ≡ true → There at) → IsKeptOrFreed was new (There at)
  with-dropped was true new false at put kept waste = subst (λ (b : Bool). IsKeptOrFreed was b (There at)) (sym put) kept
  with-dropped was false new false at put kept waste = subst (λ (b : Bool). IsKeptOrFreed was b (There at)) (sym put) kept
  with-dropped true true new true at put kept waste = inr (put, waste refl refl)
  with-dropped true false new true at put kept waste = inr (put, waste refl refl)
  with-dropped false true new true at put kept waste = inl put
  with-dropped false false new true at put kept waste = inl put

  pub cleared_bytes : length bytes ≡ 512
      → ((at : ℕ) → at < 4096 → from ≤ at → at < to → used at ≡ false → bit (sector_of volume image sector) at ≡ true → There at)
      → IsCleared volume image sector bytes
  cleared_bytes long waste = record {
    long = long;
    bits = λ at small.
        let kept : IsKeptOrFreed (bit (sector_of volume image sector) at) (bit read at) (There at) =
        let P : List ℕ → Type 0 = λ b. IsKeptOrFreed (bit (sector_of volume image sector) at) (bit b at) (There at) in
        subst P (sym is) ((cleared.bitmaps sector range).bits at small) in
        with-dropped _ (bit read at) (bit bytes at) (is_dropped used from to at) at (clears.bits at small) kept
        (λ dropped was.
        let one = and_parts (nat_le from at && nat_lt at to) (not (used at)) dropped in
        let two = and_parts (nat_le from at) (nat_lt at to) one.0 in
        waste at small (leb-true from at two.0) (ltb-true at to two.1) (not-false (used at) one.1) was);
  }
    where
      not-false : (b : Bool) → not b ≡ true → b ≡ false
      not-false true is = cc
      not-false false is = refl
