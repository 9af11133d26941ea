-- Other bytes in a part of a zone are a change of that zone alone.
use Rattle.std.proofs.Common.{◌≡◌, ◌≢◌, ℕ, ◌+◌, ◌*◌, ◌/◌, ◌%◌, ◌<◌, ◌≤◌, ◌==◌, ◌⊎◌, Bool, true, false, List, ◌++◌, length, refl, ◌∙◌, ap, arith, eq-eqb, length-append, inl, inr}
use Rattle.std.proofs.lemmas.Bool.{eqb-true, ne_eqb, and_right}
use Rattle.lilo_model.specs.Bytes.{part_of, with_part}
use Rattle.lilo_model.specs.Disks.{Image}
use Rattle.lilo_model.specs.MinixLayout.{table_start, inode_of, inode_size, inode_place, zone_sector, super_sector}
use Rattle.lilo_model.specs.MinixParts.{Parts, Volume, sector_of, bit, inode_mark_sector, zone_bit, zone_mark_sector, parts_of}
use Rattle.lilo_model.specs.MinixNames.{HasSound, IsSound}
use Rattle.minix_change_laws.specs.Beside.{IsDataZone}
use Rattle.minix_change_laws.proofs.Laid.{Laid, laid, mark-below, zone_mark-below, place-below}
use Rattle.minix_change_laws.proofs.Replaced.{length-with_part}
use Rattle.minix_change_laws.proofs.Blocks.{halves}
use Rattle.minix_change_laws.specs.Part.{HasZonePart, PartIsWritten}
use Rattle.minix_change_laws.specs.ZoneBytesLaws.{PartLaw, WritePartLaw}

module _ (volume : Volume) (old image : Image) (zone offset : ℕ) (bytes : List ℕ) (sound : HasSound volume old) (range : IsDataZone volume.layout zone) (written : HasZonePart volume old image zone offset bytes) where
  abbrev Was : Parts
  Was = parts_of volume old

  abbrev Now : Parts
  Now = parts_of volume image

  -- the sector
  abbrev Here : ℕ
  Here = zone_sector zone + offset / 512

  lies : Laid volume.layout
  lies = laid (sector_of volume old super_sector) volume.span.count volume.layout sound.super

  half : offset / 512 < 2
  half = let low = written.below in omega (arith, low)

  here-below : Here < 2 * volume.layout.zones
  here-below = omega (arith, half, range.1)

  -- ---- what is elsewhere

  before : (sector : ℕ) → sector < 2 * volume.layout.first → sector_of volume image sector ≡ sector_of volume old sector
  before sector low = written.others sector (omega (arith, low, lies.first)) (λ e. absurd (omega (arith, low, e, range.0)))

  other-zone : (other : ℕ) → other < volume.layout.zones → other ≢ zone → (sector : ℕ) → (sector ≡ zone_sector other) ⊎ (sector ≡ zone_sector other + 1) → sector_of volume image sector ≡ sector_of volume old sector
  other-zone other inside apart sector (inl first) = written.others sector (omega (arith, inside, first)) (λ e. apart (omega (arith, first, e, half)))
  other-zone other inside apart sector (inr last) = written.others sector (omega (arith, inside, last)) (λ e. apart (omega (arith, last, e, half)))

  node-kept : (number : ℕ) → 0 < number → number ≤ volume.layout.inodes → Now.node number ≡ Was.node number
  unfolding parts_of
  node-kept number some low =
      let inside : (inode_place volume.layout number).sector < 2 * volume.layout.first = place-below volume.layout lies number some low in
      ap (λ sector. inode_of volume.layout.kind (part_of sector (inode_place volume.layout number).at (inode_size volume.layout.kind))) (before (inode_place volume.layout number).sector inside)

  mark-kept : (number : ℕ) → number ≤ volume.layout.inodes → Now.has_inode number ≡ Was.has_inode number
  unfolding parts_of
  mark-kept number low =
      let inside : inode_mark_sector number < 4 + 2 * volume.layout.imap = mark-below volume.layout lies number low in
      ap (λ sector. bit sector (number % 4096)) (before (inode_mark_sector number) (omega (arith, inside, lies.table)))

  zone_mark-kept : (other : ℕ) → other < volume.layout.zones → Now.has_zone other ≡ Was.has_zone other
  unfolding parts_of
  zone_mark-kept other low =
      let inside : zone_mark_sector volume.layout other < 2 * table_start volume.layout = zone_mark-below volume.layout lies other low in
      ap (λ sector. bit sector (zone_bit volume.layout other % 4096)) (before (zone_mark_sector volume.layout other) (omega (arith, inside, lies.table)))

  zone-kept : (other : ℕ) → other < volume.layout.zones → other ≢ zone → Now.zone other ≡ Was.zone other
  unfolding parts_of
  zone-kept other inside apart =
      ap (λ first. first ++ sector_of volume image (zone_sector other + 1)) (other-zone other inside apart (zone_sector other) (inl refl))
      ∙ ap (λ last. sector_of volume old (zone_sector other) ++ last) (other-zone other inside apart (zone_sector other + 1) (inr refl))

  -- ---- the zone

  zone-is : Now.zone zone ≡ with_part (Was.zone zone) offset bytes
  unfolding parts_of
  zone-is = halves (sector_of volume old) (sector_of volume image) (zone_sector zone) offset bytes
      (sound.whole (zone_sector zone) (omega (arith, range.1)))
      written.below
      written.inside
      written.here
      (λ sector one apart. written.others sector (zone-sectors sector one) apart)
    where
      zone-sectors : (sector : ℕ) → (sector ≡ zone_sector zone) ⊎ (sector ≡ zone_sector zone + 1) → sector < 2 * volume.layout.zones
      zone-sectors sector (inl first) = omega (arith, first, range.1)
      zone-sectors sector (inr last) = omega (arith, last, range.1)

  zone-long : length (Was.zone zone) ≡ 1024
  unfolding parts_of
  zone-long =
      length-append (sector_of volume old (zone_sector zone)) (sector_of volume old (zone_sector zone + 1))
      ∙ (let low = sound.whole (zone_sector zone) (omega (arith, range.1)) in
      let high = sound.whole (zone_sector zone + 1) (omega (arith, range.1)) in
      omega (arith, low, high))

  -- ---- sectors

  whole-by : (sector : ℕ) → sector < 2 * volume.layout.zones → (same : Bool) → (sector == zone_sector zone + offset / 512) ≡ same → length (sector_of volume image sector) ≡ 512
  whole-by sector below true is =
      let same : sector ≡ Here = eqb-true sector Here is in
      let long : length (sector_of volume old Here) ≡ 512 = sound.whole Here here-below in
      let inside = written.inside in
      ap (λ n. length (sector_of volume image n)) same
      ∙ (ap length written.here ∙ (length-with_part (sector_of volume old Here) (offset % 512) bytes (omega (arith, inside, long)) ∙ long))
  whole-by sector below false is = ap length (written.others sector below (λ e. let t = eq-eqb sector Here e in cc)) ∙ sound.whole sector below

  part-written : PartIsWritten volume old image zone offset bytes
  part-written = record {
    change = record {
      here = zone-is;
      others = λ other inside apart. zone-kept other inside.1 apart;
      nodes = λ number is. node-kept number is.0 is.1;
      marks = λ number is. mark-kept number is.1;
      zone_marks = λ other inside. zone_mark-kept other inside.1;
    };
    sectors = record {
      super = before super_sector (omega (arith, lies.table));
      whole = λ sector below. whole-by sector below _ refl;
    };
    long = zone-long;
  }

pub part_law : PartLaw
unfolding IsSound
part_law volume old image zone offset bytes sound range written = part-written volume old image zone offset bytes sound range written

-- ---- one write

pub write_part_law : WritePartLaw
write_part_law volume old zone offset bytes below inside = record {
  below = below;
  inside = inside;
  here = rw (eq-eqb volume.span.disk volume.span.disk refl, eq-eqb (volume.span.start + (zone_sector zone + offset / 512)) (volume.span.start + (zone_sector zone + offset / 512)) refl) refl;
  others = λ sector low apart.
      let far : (volume.span.start + (zone_sector zone + offset / 512) == volume.span.start + sector) ≡ false = ne_eqb (volume.span.start + (zone_sector zone + offset / 512)) (volume.span.start + sector) (λ e. apart (omega (arith, e))) in
      rw (and_right (volume.span.disk == volume.span.disk) (volume.span.start + (zone_sector zone + offset / 512) == volume.span.start + sector) far) refl;
}
