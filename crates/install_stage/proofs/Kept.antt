-- What a sector is none of that a writer of files may not write.
use Rattle.std.proofs.Common.{◌≡◌, ◌≤◌, ◌<◌, ◌+◌, ◌-◌, ◌*◌, ◌/◌, ℕ, Bool, true, sym, ◌∙◌, ap, inl, inr, ◌⊎◌, ⊎_elim, arith}
use Rattle.std.proofs.lemmas.Bool.{cases_lt, cases_eq}
use Rattle.disk_trait.specs.NotWritten.{IsOther}
use Rattle.disk_trait.specs.Range.{IsOutside}
use Rattle.install_laws.specs.Writes.{IsOfDirectory, MayBeWritten, IsWritable, IsApartSector}
use Rattle.lilo_model.specs.Clear.{IsOfZone}
use Rattle.lilo_model.specs.Disks.{Image, DiskSector}
use Rattle.lilo_model.specs.MinixLayout.{Kind, V1Short, V1Long, V2Short, V2Long, Super, inode_size, inode_place, table_start, table_blocks, zone_sector}
use Rattle.lilo_model.specs.MinixNames.{Refers, IsSound}
use Rattle.lilo_model.specs.MinixParts.{Volume, Pointer, parts_of, is_directory, zone_mark_sector}
use Rattle.minix_change_laws.specs.Beside.{IsDataZone}
use Rattle.minix_change_laws.proofs.Harmless.{region_law}
use Rattle.minix_change_laws.proofs.Laid.{Laid, laid}
use Rattle.minix_change_laws.proofs.Seen.{opened}
use Rattle.install_stage.specs.Within.{AreDataZones, ApartLaw}

-- ---- the table of inodes has the sector of each inode

place-by : (kind : Kind) (inodes start number : ℕ) → 1 ≤ number → number ≤ inodes → 2 * start + (number - 1) * inode_size kind / 512 < 2 * (start + (inodes * inode_size kind + 1023) / 1024)
place-by V1Short inodes start number some range = omega arith
place-by V1Long inodes start number some range = omega arith
place-by V2Short inodes start number some range = omega arith
place-by V2Long inodes start number some range = omega arith

place-in : (super : Super) (number : ℕ) → 1 ≤ number → number ≤ super.inodes → (inode_place super number).sector < 2 * (table_start super + table_blocks super)
unfolding inode_place
place-in super number some there = place-by super.kind super.inodes (table_start super) number some there

place-from : (super : Super) (number : ℕ) → 2 * table_start super ≤ (inode_place super number).sector
unfolding inode_place
place-from super number = omega arith

-- ---- sectors of zones

zone-below : (zone sector zones : ℕ) → IsOfZone zone sector → zone < zones → sector < 2 * zones
zone-below zone sector zones (inl half) range = omega (arith, half, range)
zone-below zone sector zones (inr half) range = omega (arith, half, range)

zone-from : (zone sector first : ℕ) → IsOfZone zone sector → first ≤ zone → 2 * first ≤ sector
zone-from zone sector first (inl half) range = omega (arith, half, range)
zone-from zone sector first (inr half) range = omega (arith, half, range)

half-of : (zone sector : ℕ) → 2 * zone ≤ sector → sector < 2 * zone + 2 → IsOfZone zone sector
half-of zone sector from below = ⊎_elim (λ e. inl (sym e)) (λ apart. inr (omega (arith, from, below, apart))) (cases_eq sector (2 * zone))

-- ---- writable sectors

module _ (volume : Volume) (image : Image) (sound : IsSound volume image) (chosen : ℕ → Bool) where
  abbrev pub Writable : ℕ → ℕ → Type 0
  Writable d s = IsWritable volume image chosen (record { disk = d; sector = s })

  lies : Laid volume.layout
  lies = laid _ volume.span.count volume.layout (opened volume image sound).super

  -- a sector of the volume by its number there
  at-sector : (d s sector : ℕ) → d ≡ volume.span.disk → s ≡ volume.span.start + sector → sector < 2 * volume.layout.zones → MayBeWritten volume image chosen sector → Writable d s
  at-sector d s sector disk is inside may = record {
    sector = sector;
    inside = inside;
    is = ap (λ (n : ℕ). record { disk = n; sector = s }) disk ∙ ap (λ (n : ℕ). record { disk = volume.span.disk; sector = n }) is;
    may = may;
  }

  -- of the bitmaps and the table
  in-tables : (d s sector : ℕ) → d ≡ volume.span.disk → s ≡ volume.span.start + sector → 2 ≤ sector → sector < 2 * (table_start volume.layout + table_blocks volume.layout) → Writable d s
  in-tables d s sector disk is from below = at-sector d s sector disk is (omega (arith, below, lies.table, lies.first)) (inl (from, below))

  -- of a zone
  in-zone : (d s sector zone : ℕ) → d ≡ volume.span.disk → s ≡ volume.span.start + sector → zone < volume.layout.zones → ((chosen zone ≡ true) ⊎ IsOfDirectory volume image zone) → IsOfZone zone sector → Writable d s
  in-zone d s sector zone disk is range what of = at-sector d s sector disk is (zone-below zone sector volume.layout.zones of range) (inr (zone, of, what))

  -- ---- one that isn't writable

  module _ (d s : ℕ) (not : Writable d s → ⊥) where
    off-run : (from count : ℕ) → ((sector : ℕ) → d ≡ volume.span.disk → s ≡ volume.span.start + sector → from ≤ sector → sector < from + count → Writable d s)
        → IsOutside volume.span.disk (volume.span.start + from) count d s
    off-run from count may = by (cases_eq d volume.span.disk) (cases_lt s (volume.span.start + from)) (cases_lt s (volume.span.start + from + count))
      where
        by : (d ≡ volume.span.disk) ⊎ (d ≡ volume.span.disk → ⊥) → (s < volume.span.start + from) ⊎ (volume.span.start + from ≤ s)
            → (s < volume.span.start + from + count) ⊎ (volume.span.start + from + count ≤ s) → IsOutside volume.span.disk (volume.span.start + from) count d s
        by (inr other) low high = inl other
        by (inl disk) (inl before) high = inr (inl before)
        by (inl disk) (inr since) (inr after) = inr (inr after)
        by (inl disk) (inr since) (inl below) =
            absurd (not (may (s - volume.span.start) disk (omega (arith, since)) (omega (arith, since)) (omega (arith, since, below))))

    off-one : (sector : ℕ) → (d ≡ volume.span.disk → s ≡ volume.span.start + sector → Writable d s) → IsOther volume.span.disk (volume.span.start + sector) d s
    off-one sector may = by (cases_eq d volume.span.disk) (cases_eq s (volume.span.start + sector))
      where
        by : (d ≡ volume.span.disk) ⊎ (d ≡ volume.span.disk → ⊥) → (s ≡ volume.span.start + sector) ⊎ (s ≡ volume.span.start + sector → ⊥) → IsOther volume.span.disk (volume.span.start + sector) d s
        by (inr other) at = inl other
        by (inl disk) (inr other) = inr other
        by (inl disk) (inl same) = absurd (not (may disk same))

    off-zone : (zone : ℕ) → zone < volume.layout.zones → ((chosen zone ≡ true) ⊎ IsOfDirectory volume image zone) → IsOutside volume.span.disk (volume.span.start + zone_sector zone) 2 d s
    off-zone zone range what = off-run (zone_sector zone) 2 (λ sector disk is from below. in-zone d s sector zone disk is range what (half-of zone sector from below))

    -- it is none of a zone that was chosen
    pub off-chosen : (zone : ℕ) → IsDataZone volume.layout zone → chosen zone ≡ true → IsOutside volume.span.disk (volume.span.start + zone_sector zone) 2 d s
    off-chosen zone range picked = off-zone zone range.1 (inl picked)

    -- nor of one of a directory
    pub off-directory : (number : ℕ) (at : Pointer) (zone : ℕ) → Refers volume.layout (parts_of volume image) number at zone → is_directory ((parts_of volume image).node number) ≡ true
        → IsOutside volume.span.disk (volume.span.start + zone_sector zone) 2 d s
    off-directory number at zone refers is =
        off-zone zone ((opened volume image sound).parts.zone_range number at zone refers).1 (inr (record { number = number; at = at; refers = refers; is = is }))

    -- nor of the bitmaps
    pub off-maps : IsOutside volume.span.disk (volume.span.start + 4) (2 * (volume.layout.imap + volume.layout.zmap)) d s
    off-maps = off-run 4 (2 * (volume.layout.imap + volume.layout.zmap)) (λ sector disk is from below. in-tables d s sector disk is (omega (arith, from)) (omega (arith, below)))

    -- nor the one with an inode
    pub off-inode : (number : ℕ) → 1 ≤ number → number ≤ volume.layout.inodes → IsOther volume.span.disk (volume.span.start + (inode_place volume.layout number).sector) d s
    off-inode number some there =
        let low = place-from volume.layout number in
        off-one (inode_place volume.layout number).sector (λ disk is. in-tables d s (inode_place volume.layout number).sector disk is (omega (arith, low)) (place-in volume.layout number some there))

    -- nor the one with a zone's bit
    pub off-mark : (zone : ℕ) → IsDataZone volume.layout zone → IsOther volume.span.disk (volume.span.start + zone_mark_sector volume.layout zone) d s
    off-mark zone range =
        let of = (region_law volume image sound).zone_marks zone range in
        off-one (zone_mark_sector volume.layout zone) (λ disk is. in-tables d s (zone_mark_sector volume.layout zone) disk is (omega (arith, of.0)) (omega (arith, of.1)))

  -- ---- one that isn't past block 0

  module _ (data_is : AreDataZones volume.layout chosen) where
    zone-high : (zone sector : ℕ) → volume.layout.first ≤ zone → IsOfZone zone sector → 2 ≤ sector
    zone-high zone sector from of = let high = zone-from zone sector volume.layout.first of from in omega (arith, high, lies.table)

    by-what : (zone sector : ℕ) → IsOfZone zone sector → ((chosen zone ≡ true) ⊎ IsOfDirectory volume image zone) → 2 ≤ sector
    by-what zone sector of (inl picked) = zone-high zone sector (data_is zone picked).0 of
    by-what zone sector of (inr directory) = zone-high zone sector ((opened volume image sound).parts.zone_range directory.number directory.at zone directory.refers).0 of

    high : (sector : ℕ) → MayBeWritten volume image chosen sector → 2 ≤ sector
    high sector (inl tables) = tables.0
    high sector (inr zone) = by-what zone.0 sector zone.1 zone.2

    pub apart-not : (d s : ℕ) → IsApartSector volume d s → Writable d s → ⊥
    apart-not d s apart w = by apart
      where
        disk : d ≡ volume.span.disk
        disk = ap (λ (place : DiskSector). place.disk) w.is

        is : s ≡ volume.span.start + w.sector
        is = ap (λ (place : DiskSector). place.sector) w.is

        by : IsApartSector volume d s → ⊥
        by (inl other) = other disk
        by (inr (inl before)) = let from = high w.sector w.may in omega (arith, before, is, from)
        by (inr (inr after)) = let inside = w.inside in omega (arith, after, is, inside)

pub apart_law : ApartLaw
apart_law volume image chosen d s sound data_is apart w = apart-not volume image sound chosen data_is d s apart w
