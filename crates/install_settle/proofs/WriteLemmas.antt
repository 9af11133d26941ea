-- What the steps of settling don't write, in terms of what a writer of files may.
use Rattle.std.proofs.Common.{◌≡◌, ◌≤◌, ◌<◌, ◌+◌, ◌-◌, ◌*◌, ◌/◌, ℕ, Bool, true, false, List, Some, sym, ◌∙◌, ap, inl, inr, ◌⊎◌, ⊎_elim, arith}
use Rattle.std.proofs.lemmas.Bool.{cases_lt, cases_eq}
use Rattle.disk_trait.specs.declared.disks.Disks.{Ghosts}
use Rattle.disk_trait.specs.Moments.{now}
use Rattle.disk_trait.specs.NotWritten.{IsOther}
use Rattle.disk_trait.specs.Range.{IsOutside}
use Rattle.lilo_model.specs.Clear.{IsOfZone}
use Rattle.lilo_model.specs.Disks.{Image, DiskSector}
use Rattle.lilo_model.specs.MinixLayout.{Kind, V1Short, V1Long, V2Short, V2Long, Super, inode_size, inode_place, table_start, table_blocks, zone_sector}
use Rattle.lilo_model.specs.MinixNames.{Named, PointsTo, Refers, IsSound}
use Rattle.lilo_model.specs.MinixParts as parts
use Rattle.lilo_model.specs.MinixParts.{Pointer, parts_of, is_directory}
use Rattle.minix_change_laws.proofs.Laid.{Laid, laid}
use Rattle.minix_fill.specs.Freed.{IsOffFile}
use Rattle.minix_layout.specs.View.{super_view}
use Rattle.minix_remove.specs.Removed.{IsOffRemoved}
use Rattle.minix_remove.specs.Renamed.{IsOffRenamed}
use Rattle.minix_remove_laws.specs.Held.{held_name}
use Rattle.minix_change_laws.proofs.Seen.{opened}
use Rattle.minix_steps.specs.Written.{parts_now}
use Rattle.minix_zones.specs.Volume.{volume_view, past_of}
use Rattle.minix_zones.specs.declared.volume.Volume.{Volume}
use Rattle.install_laws.specs.Writes.{IsOfDirectory, MayBeWritten, IsWritable, IsApartSector}

-- the table of inodes has the sector of each inode
place-by : (kind : Kind) (inodes start number : ℕ) → 1 ≤ number → number ≤ inodes → 2 * start + (number - 1) * inode_size kind / 512 < 2 * (start + (inodes * inode_size kind + 1023) / 1024)
place-by V1Short inodes start number some range = omega arith
place-by V1Long inodes start number some range = omega arith
place-by V2Short inodes start number some range = omega arith
place-by V2Long inodes start number some range = omega arith

place-in : (super : Super) (number : ℕ) → 1 ≤ number → number ≤ super.inodes → (inode_place super number).sector < 2 * (table_start super + table_blocks super)
unfolding inode_place
place-in super number some there = place-by super.kind super.inodes (table_start super) number some there

place-from : (super : Super) (number : ℕ) → 2 * table_start super ≤ (inode_place super number).sector
unfolding inode_place
place-from super number = omega arith

abbrev None-chosen : ℕ → Bool
None-chosen zone = false

module _ (volume : parts.Volume) (image : Image) (sound : IsSound volume image) where
  abbrev Writable : ℕ → ℕ → Type 0
  Writable d s = IsWritable volume image None-chosen (record { disk = d; sector = s })

  lies : Laid volume.layout
  lies = laid _ volume.span.count volume.layout (opened volume image sound).super

  -- a sector of the volume by its number there
  at-sector : (d s sector : ℕ) → d ≡ volume.span.disk → s ≡ volume.span.start + sector → sector < 2 * volume.layout.zones → MayBeWritten volume image None-chosen sector → Writable d s
  at-sector d s sector disk is inside may = record {
    sector = sector;
    inside = inside;
    is = ap (λ (n : ℕ). record { disk = n; sector = s }) disk ∙ ap (λ (n : ℕ). record { disk = volume.span.disk; sector = n }) is;
    may = may;
  }

  -- of the bitmaps and the table
  in-tables : (d s sector : ℕ) → d ≡ volume.span.disk → s ≡ volume.span.start + sector → 2 ≤ sector → sector < 2 * (table_start volume.layout + table_blocks volume.layout) → Writable d s
  in-tables d s sector disk is from below = at-sector d s sector disk is (omega (arith, below, lies.table, lies.first)) (inl (from, below))

  -- of a directory
  in-directory : (d s sector number : ℕ) (at : Pointer) (zone : ℕ) → d ≡ volume.span.disk → s ≡ volume.span.start + sector
      → Refers volume.layout (parts_of volume image) number at zone → is_directory ((parts_of volume image).node number) ≡ true → IsOfZone zone sector → Writable d s
  in-directory d s sector number at zone disk is refers directory of =
      let range = (opened volume image sound).parts.zone_range number at zone refers in
      at-sector d s sector disk is (below of range.1) (inr (zone, of, inr (record { number = number; at = at; refers = refers; is = directory })))
    where
      below : IsOfZone zone sector → zone < volume.layout.zones → sector < 2 * volume.layout.zones
      below (inl is) range = omega (arith, is, range)
      below (inr is) range = omega (arith, is, range)

  module _ (d s : ℕ) (not : Writable d s → ⊥) where
    off-zone : (number : ℕ) (at : Pointer) (zone : ℕ) → Named volume.layout (parts_of volume image) number → is_directory ((parts_of volume image).node number) ≡ true
        → PointsTo volume.layout (parts_of volume image) number at zone → IsOutside volume.span.disk (volume.span.start + zone_sector zone) 2 d s
    off-zone number at zone named is to = by (cases_eq d volume.span.disk) (cases_lt s (volume.span.start + zone_sector zone)) (cases_lt s (volume.span.start + zone_sector zone + 2))
      where
        half : (sector : ℕ) → 2 * zone ≤ sector → sector < 2 * zone + 2 → IsOfZone zone sector
        half sector from below = ⊎_elim (λ e. inl (sym e)) (λ apart. inr (omega (arith, from, below, apart))) (cases_eq sector (2 * zone))

        by : (d ≡ volume.span.disk) ⊎ (d ≡ volume.span.disk → ⊥) → (s < volume.span.start + zone_sector zone) ⊎ (volume.span.start + zone_sector zone ≤ s)
            → (s < volume.span.start + zone_sector zone + 2) ⊎ (volume.span.start + zone_sector zone + 2 ≤ s) → IsOutside volume.span.disk (volume.span.start + zone_sector zone) 2 d s
        by (inr other) low high = inl other
        by (inl disk) (inl before) high = inr (inl before)
        by (inl disk) (inr from) (inr after) = inr (inr after)
        by (inl disk) (inr from) (inl below) =
            absurd (not (in-directory d s (s - volume.span.start) number at zone disk (omega (arith, from)) (record { named = named; to = to }) is (half (s - volume.span.start) (omega (arith, from)) (omega (arith, from, below)))))

    off-maps : IsOutside volume.span.disk (volume.span.start + 4) (2 * (volume.layout.imap + volume.layout.zmap)) d s
    off-maps = by (cases_eq d volume.span.disk) (cases_lt s (volume.span.start + 4)) (cases_lt s (volume.span.start + 4 + 2 * (volume.layout.imap + volume.layout.zmap)))
      where
        by : (d ≡ volume.span.disk) ⊎ (d ≡ volume.span.disk → ⊥) → (s < volume.span.start + 4) ⊎ (volume.span.start + 4 ≤ s)
            → (s < volume.span.start + 4 + 2 * (volume.layout.imap + volume.layout.zmap)) ⊎ (volume.span.start + 4 + 2 * (volume.layout.imap + volume.layout.zmap) ≤ s)
            → IsOutside volume.span.disk (volume.span.start + 4) (2 * (volume.layout.imap + volume.layout.zmap)) d s
        by (inr other) low high = inl other
        by (inl disk) (inl before) high = inr (inl before)
        by (inl disk) (inr from) (inr after) = inr (inr after)
        by (inl disk) (inr from) (inl below) = absurd (not (in-tables d s (s - volume.span.start) disk (omega (arith, from)) (omega (arith, from)) (omega (arith, from, below))))

    off-inode : (number : ℕ) → 1 ≤ number → number ≤ volume.layout.inodes → IsOther volume.span.disk (volume.span.start + (inode_place volume.layout number).sector) d s
    off-inode number some there = by (cases_eq d volume.span.disk) (cases_eq s (volume.span.start + (inode_place volume.layout number).sector))
      where
        from : 2 ≤ (inode_place volume.layout number).sector
        from = let low = place-from volume.layout number in omega (arith, low)

        by : (d ≡ volume.span.disk) ⊎ (d ≡ volume.span.disk → ⊥) → (s ≡ volume.span.start + (inode_place volume.layout number).sector) ⊎ (s ≡ volume.span.start + (inode_place volume.layout number).sector → ⊥)
            → IsOther volume.span.disk (volume.span.start + (inode_place volume.layout number).sector) d s
        by (inr other) at = inl other
        by (inl disk) (inr other) = inr other
        by (inl disk) (inl same) = absurd (not (in-tables d s (inode_place volume.layout number).sector disk same from (place-in volume.layout number some there)))

  -- a sector that isn't the volume's, or is of its block 0, isn't writable
  pub apart-not : (d s : ℕ) → IsApartSector volume d s → Writable d s → ⊥
  apart-not d s apart w = by apart
    where
      disk : d ≡ volume.span.disk
      disk = ap (λ (place : DiskSector). place.disk) w.is

      is : s ≡ volume.span.start + w.sector
      is = ap (λ (place : DiskSector). place.sector) w.is

      high-by : MayBeWritten volume image None-chosen w.sector → 2 ≤ w.sector
      high-by (inl tables) = tables.0
      high-by (inr of) = in-zone of.0 of.1 of.2
        where
          in-half : (zone : ℕ) → volume.layout.first ≤ zone → IsOfZone zone w.sector → 2 ≤ w.sector
          in-half zone from (inl half) = omega (arith, half, from, lies.table)
          in-half zone from (inr half) = omega (arith, half, from, lies.table)

          in-zone : (zone : ℕ) → IsOfZone zone w.sector → ((None-chosen zone ≡ true) ⊎ IsOfDirectory volume image zone) → 2 ≤ w.sector
          in-zone zone half (inl chosen) = absurd (cc)
          in-zone zone half (inr directory) = in-half zone ((opened volume image sound).parts.zone_range directory.number directory.at zone directory.refers).0 half

      by : IsApartSector volume d s → ⊥
      by (inl other) = other disk
      by (inr (inl before)) = let high = high-by w.may in omega (arith, before, is, high)
      by (inr (inr after)) = let inside = w.inside in omega (arith, after, is, inside)

module _ {D : Type 0} {disks : Ghosts D} (volume : Volume D disks) (sound : IsSound (volume_view volume) (now (past_of volume))) (directory : ℕ)
    (named : Named (super_view volume.layout) (parts_now volume) directory) (is : is_directory ((parts_now volume).node directory) ≡ true)
    (d s : ℕ) (not : Writable (volume_view volume) (now (past_of volume)) sound d s → ⊥) where
  off-file : (number : ℕ) → Named (super_view volume.layout) (parts_now volume) number → IsOffFile volume number d s
  off-file number of =
      let range = (opened (volume_view volume) (now (past_of volume)) sound).parts.in_range number of in
      record {
        maps = off-maps (volume_view volume) (now (past_of volume)) sound d s not;
        inode = off-inode (volume_view volume) (now (past_of volume)) sound d s not number range.0 range.1;
      }

  -- such a sector isn't written by a removal
  pub off-removed : (number : ℕ) → Named (super_view volume.layout) (parts_now volume) number → IsOffRemoved volume directory number d s
  off-removed number of = record {
    zones = λ at zone to. off-zone (volume_view volume) (now (past_of volume)) sound d s not directory at zone named is to;
    file = off-file number of;
  }

  -- nor by a renaming
  pub off-renamed : (from to : List ℕ) → ((number : ℕ) → held_name (super_view volume.layout) (parts_now volume) directory from ≡ Some number → Named (super_view volume.layout) (parts_now volume) number)
      → ((number : ℕ) → held_name (super_view volume.layout) (parts_now volume) directory to ≡ Some number → Named (super_view volume.layout) (parts_now volume) number) → IsOffRenamed volume directory from to d s
  off-renamed from to one other = record {
    zones = λ at zone points. off-zone (volume_view volume) (now (past_of volume)) sound d s not directory at zone named is points;
    files = λ number former first second. (off-file number (one number first), off-file former (other former second));
  }
