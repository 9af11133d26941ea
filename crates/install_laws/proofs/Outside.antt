-- A write outside a volume, or to its block 0.
use Rattle.std.proofs.Common.{◌≡◌, ◌<◌, ◌≤◌, ℕ, ◌+◌, ◌*◌, ◌%◌, ◌==◌, ◌&&◌, ◌++◌, Bool, true, false, List, refl, ap, ◌∙◌, arith, inl, inr, if◌then◌else◌, length, eqb-true, [], Some}
use Rattle.lilo_model.specs.Bytes.{part_of}
use Rattle.lilo_model.specs.Disks.{Image, with_sector}
use Rattle.lilo_model.specs.MinixLayout.{inode_size, inode_of, inode_place, zone_sector, super_sector, super_at}
use Rattle.lilo_model.specs.MinixParts.{Volume, sector_of, bit, inode_mark_sector, zone_bit, zone_mark_sector, parts_of}
use Rattle.lilo_model.specs.MinixNames.{reached, HasSound, IsSound, names_in}
use Rattle.minix_change_laws.specs.Keeps.{Keeps, SoundAs}
use Rattle.minix_change_laws.specs.Beside.{IsOfBitmaps, IsOutside, Regions}
use Rattle.minix_change_laws.proofs.Keeps.{keeps_law}
use Rattle.minix_change_laws.proofs.Harmless.{region_law}
use Rattle.minix_change_laws.proofs.Laid.{Laid, laid, place-from}
use Rattle.install_laws.specs.Writes.{ApartWriteLaw, IsApartSector, OutsideLaw}

module _ (volume : Volume) (old : Image) (disk sector : ℕ) (bytes : List ℕ) where
  abbrev new : Image
  new = with_sector old (record { disk = disk; sector = sector }) bytes

  -- any other sector stays
  other-stays : (n : ℕ) → ((disk ≡ volume.span.disk) → (sector ≡ volume.span.start + n) → ⊥) → sector_of volume new n ≡ sector_of volume old n
  other-stays n other = by (disk == volume.span.disk) (sector == volume.span.start + n) refl refl
    where
      by : (a b : Bool) → (disk == volume.span.disk) ≡ a → (sector == volume.span.start + n) ≡ b → (if a && b then bytes else old volume.span.disk (volume.span.start + n)) ≡ old volume.span.disk (volume.span.start + n)
      by false b e1 e2 = refl
      by true false e1 e2 = refl
      by true true e1 e2 = absurd (other (eqb-true disk volume.span.disk e1) (eqb-true sector (volume.span.start + n) e2))

  -- and each has the bytes that it had, or these
  long-stays : (n : ℕ) → length bytes ≡ 512 → length (sector_of volume old n) ≡ 512 → length (sector_of volume new n) ≡ 512
  long-stays n long was = by (disk == volume.span.disk) (sector == volume.span.start + n)
    where
      by : (a b : Bool) → length (if a && b then bytes else old volume.span.disk (volume.span.start + n)) ≡ 512
      by false b = was
      by true false = was
      by true true = long

  -- the volume's sectors stay, outside of it
  outside-stays : IsOutside volume disk sector → (n : ℕ) → n < 2 * volume.layout.zones → sector_of volume new n ≡ sector_of volume old n
  outside-stays out n below = other-stays n (λ e1 e2. by out e1 e2)
    where
      by : IsOutside volume disk sector → disk ≡ volume.span.disk → sector ≡ volume.span.start + n → ⊥
      by (inl other) e1 e2 = other e1
      by (inr (inl before)) e1 e2 = absurd (omega (arith, before, e2))
      by (inr (inr after)) e1 e2 = absurd (omega (arith, after, e2, below))

  -- and past its block 0
  apart-stays : IsApartSector volume disk sector → (n : ℕ) → 2 ≤ n → n < 2 * volume.layout.zones → sector_of volume new n ≡ sector_of volume old n
  apart-stays out n past below = other-stays n (λ e1 e2. by out e1 e2)
    where
      by : IsApartSector volume disk sector → disk ≡ volume.span.disk → sector ≡ volume.span.start + n → ⊥
      by (inl other) e1 e2 = other e1
      by (inr (inl before)) e1 e2 = absurd (omega (arith, before, e2, past))
      by (inr (inr after)) e1 e2 = absurd (omega (arith, after, e2, below))

  module _ (sound : HasSound volume old) (regions : Regions volume.layout)
      (stays : (n : ℕ) → 2 ≤ n → n < 2 * volume.layout.zones → sector_of volume new n ≡ sector_of volume old n)
      (whole : (n : ℕ) → n < 2 * volume.layout.zones → length (sector_of volume new n) ≡ 512) where
    lies : Laid volume.layout
    lies = laid (sector_of volume old super_sector) volume.span.count volume.layout sound.super

    bitmap : (n : ℕ) → IsOfBitmaps volume.layout n → sector_of volume new n ≡ sector_of volume old n
    bitmap n is = stays n (let low = is.0 in omega (arith, low)) (regions.bitmaps n is)

    keeps : Keeps volume.layout (parts_of volume old) (parts_of volume new)
    unfolding parts_of
    keeps = record {
      nodes = λ number named. ap (λ s. inode_of volume.layout.kind (part_of s (inode_place volume.layout number).at (inode_size volume.layout.kind))) (stays (inode_place volume.layout number).sector (let from = place-from volume.layout lies number in omega (arith, from)) (regions.places number (sound.parts.in_range number named)));
      marks = λ number named. ap (λ s. bit s (number % 4096)) (bitmap (inode_mark_sector number) (regions.marks number (sound.parts.in_range number named)));
      zones = λ number at zone refers.
          let range = sound.parts.zone_range number at zone refers in
          let from = lies.table in
          let past : 2 ≤ zone_sector zone = omega (arith, range.0, from) in
          ap (λ s. s ++ sector_of volume new (zone_sector zone + 1)) (stays (zone_sector zone) past (regions.zones zone (zone_sector zone) range (inl refl)))
          ∙ ap (λ s. sector_of volume old (zone_sector zone) ++ s) (stays (zone_sector zone + 1) (omega (arith, past)) (regions.zones zone (zone_sector zone + 1) range (inr refl)));
      zone_marks = λ number at zone refers. ap (λ s. bit s (zone_bit volume.layout zone % 4096)) (bitmap (zone_mark_sector volume.layout zone) (regions.zone_marks zone (sound.parts.zone_range number at zone refers)));
    }

    kept : SoundAs volume.layout (parts_of volume old) (parts_of volume new)
    kept = keeps_law volume.layout (parts_of volume old) (parts_of volume new) sound.parts keeps

    new-sound : super_sector < 2 * volume.layout.zones → HasSound volume new
    new-sound low = record {
      super = ap (λ s. super_at s volume.span.count) (stays super_sector (omega (arith)) low) ∙ sound.super;
      whole = whole;
      parts = kept.sound;
    }

root-leads : (volume : Volume) (old : Image) → reached volume.layout (parts_of volume old) [] ≡ Some 1
unfolding reached
root-leads volume old = refl

module _ (volume : Volume) (old : Image) (sound : HasSound volume old) where
  low-super : Regions volume.layout → super_sector < 2 * volume.layout.zones
  low-super regions =
      let root = regions.marks 1 (sound.parts.in_range 1 (record { path = []; leads = root-leads volume old })) in
      let low = regions.bitmaps (inode_mark_sector 1) root in
      let least = root.0 in
      omega (arith, low, least)

pub outside_law : OutsideLaw
unfolding IsSound names_in
outside_law volume old disk sector bytes sound out =
    let regions = region_law volume old sound in
    let now = new volume old disk sector bytes in
    let stays = outside-stays volume old disk sector bytes out in
    let whole : (n : ℕ) → n < 2 * volume.layout.zones → length (sector_of volume now n) ≡ 512 = λ n below. ap length (stays n below) ∙ sound.whole n below in
    record { sound = new-sound volume old disk sector bytes sound regions (λ n past. stays n) whole (low-super volume old sound regions); same = (kept volume old disk sector bytes sound regions (λ n past. stays n) whole).same }

pub apart_write_law : ApartWriteLaw
unfolding IsSound names_in
apart_write_law volume old disk sector bytes sound long out =
    let regions = region_law volume old sound in
    let now = new volume old disk sector bytes in
    let stays = apart-stays volume old disk sector bytes out in
    let whole : (n : ℕ) → n < 2 * volume.layout.zones → length (sector_of volume now n) ≡ 512 = λ n below. long-stays volume old disk sector bytes n long (sound.whole n below) in
    record { sound = new-sound volume old disk sector bytes sound regions stays whole (low-super volume old sound regions); same = (kept volume old disk sector bytes sound regions stays whole).same }
