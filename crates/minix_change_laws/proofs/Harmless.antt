-- What is harmless on a sound volume.
use Rattle.std.proofs.Common.{◌≡◌, ◌≢◌, ℕ, ◌+◌, ◌-◌, ◌*◌, ◌/◌, ◌%◌, ◌<◌, ◌≤◌, ◌⊎◌, true, false, List, length, refl, sym, ◌∙◌, subst, arith, inl, inr}
use Rattle.std.proofs.lemmas.Bool.{cases_lt}
use Rattle.lilo_model.specs.Bytes.{with_part}
use Rattle.lilo_model.specs.Disks.{Image}
use Rattle.lilo_model.specs.MinixLayout.{Kind, V1Short, V1Long, V2Short, V2Long, Super, inode_size, table_start, inode_place}
use Rattle.lilo_model.specs.MinixParts.{Volume, Pointer, bit, inode_mark_sector, zone_bit, zone_mark_sector, with_bit}
use Rattle.lilo_model.specs.MinixNames.{HasSound, IsSound}
use Rattle.minix_change_laws.specs.Beside.{NamedIn, RefersIn, IsOfZone, Harmless, IsUnnamed, IsUnused, IsInode, IsDataZone, IsOfBitmaps, Regions}
use Rattle.minix_change_laws.specs.BesideLaws.{RegionLaw, UnusedZoneLaw, UnnamedInodeLaw, SetBitLaw, ClearInodeLaw, ClearZoneLaw}
use Rattle.minix_change_laws.proofs.Laid.{Laid, mark-below, zone_mark-from, zone_mark-below, place-from, place-below}
use Rattle.minix_change_laws.proofs.Beside.{lies}
use Rattle.minix_change_laws.proofs.Bits.{length-with_bit, bit-set, bit-clear}
use Rattle.minix_change_laws.proofs.Replaced.{length-with_part, part-other}

-- ---- sectors of zones

zone-of : (zone sector : ℕ) → IsOfZone zone sector → zone ≡ sector / 2
zone-of zone sector (inl is) = omega (arith, is)
zone-of zone sector (inr is) = omega (arith, is)

-- ---- inodes of one sector lie apart

-- where the inode with a number begins in its sector, and that sector in the table
abbrev offset : Kind → ℕ → ℕ
offset kind number = (number - 1) * inode_size kind % 512

abbrev row : Kind → ℕ → ℕ
row kind number = (number - 1) * inode_size kind / 512

offset-fits : (kind : Kind) (number : ℕ) → offset kind number + inode_size kind ≤ 512
offset-fits V1Short number = omega arith
offset-fits V1Long number = omega arith
offset-fits V2Short number = omega arith
offset-fits V2Long number = omega arith

offset-before : (kind : Kind) (number other : ℕ) → 0 < number → number < other → row kind number ≡ row kind other → offset kind number + inode_size kind ≤ offset kind other
offset-before V1Short number other some below same = omega arith
offset-before V1Long number other some below same = omega arith
offset-before V2Short number other some below same = omega arith
offset-before V2Long number other some below same = omega arith

offsets-apart : (kind : Kind) (number other : ℕ) → 0 < number → 0 < other → number ≢ other → row kind number ≡ row kind other
    → (offset kind number + inode_size kind ≤ offset kind other) ⊎ (offset kind other + inode_size kind ≤ offset kind number)
offsets-apart kind number other some some' apart same = by_order (cases_lt number other)
  where
    by_order : (number < other) ⊎ (other ≤ number) → (offset kind number + inode_size kind ≤ offset kind other) ⊎ (offset kind other + inode_size kind ≤ offset kind number)
    by_order (inl below) = inl (offset-before kind number other some below same)
    by_order (inr above) = inr (offset-before kind other number some' (omega (arith, above, apart)) (sym same))

place-row : (super : Super) (number other : ℕ) → (inode_place super number).sector ≡ (inode_place super other).sector → row super.kind number ≡ row super.kind other
unfolding inode_place
place-row super number other is = omega (arith, is)

place-offset : (super : Super) (number : ℕ) → (inode_place super number).at ≡ offset super.kind number
unfolding inode_place
place-offset super number = refl

module _ (volume : Volume) (old : Image) (sound : HasSound volume old) where
  abbrev Lies : Laid volume.layout
  Lies = lies volume old sound

  -- ---- where things lie

  zone-from : (number : ℕ) (at : Pointer) (zone sector : ℕ) → RefersIn volume old number at zone → IsOfZone zone sector → 2 * volume.layout.first ≤ sector
  zone-from number at zone sector refers is =
      let range = sound.parts.zone_range number at zone refers in
      omega (arith, zone-of zone sector is, range.0)

  marks-below : (number : ℕ) → NamedIn volume old number → inode_mark_sector number < 4 + 2 * volume.layout.imap
  marks-below number named = mark-below volume.layout Lies number (sound.parts.in_range number named).1

  zone_marks-below : (number : ℕ) (at : Pointer) (zone : ℕ) → RefersIn volume old number at zone → zone_mark_sector volume.layout zone < 2 * table_start volume.layout
  zone_marks-below number at zone refers = zone_mark-below volume.layout Lies zone (sound.parts.zone_range number at zone refers).1

  places-below : (number : ℕ) → NamedIn volume old number → (inode_place volume.layout number).sector < 2 * volume.layout.first
  places-below number named =
      let range = sound.parts.in_range number named in
      place-below volume.layout Lies number range.0 range.1

  -- ---- sectors of the volume

  regions : Regions volume.layout
  regions = record {
    marks = λ number range. let low = mark-below volume.layout Lies number range.1 in (omega arith, omega (arith, low));
    zone_marks = λ zone range. let from = zone_mark-from volume.layout Lies zone in (omega (arith, from), zone_mark-below volume.layout Lies zone range.1);
    bitmaps = λ sector range. let table = Lies.table in let first = Lies.first in omega (arith, range.1, table, first);
    places = λ number range. let low = place-below volume.layout Lies number range.0 range.1 in let first = Lies.first in omega (arith, low, first);
    zones = λ zone sector range of. let is : zone ≡ sector / 2 = zone-of zone sector of in omega (arith, is, range.1);
  }

  -- ---- a zone

  unused_zone : (zone sector : ℕ) (bytes : List ℕ) → IsDataZone volume.layout zone → IsUnused volume old zone → IsOfZone zone sector → length bytes ≡ 512 → Harmless volume old sector bytes
  unused_zone zone sector bytes range unused of long =
      let is : zone ≡ sector / 2 = zone-of zone sector of in
      let from : 2 * volume.layout.first ≤ sector = omega (arith, is, range.0) in
      let table = Lies.table in
      record {
        long = long;
        super = λ e. absurd (omega (arith, e, from, table));
        nodes = λ number named e. absurd (omega (arith, e, from, places-below number named));
        zones = λ number at other refers e.
            let same : other ≡ zone = zone-of other sector e ∙ sym is in
            let P : ℕ → Type 0 = λ n. RefersIn volume old number at n in
            absurd (unused number at (subst P same refers));
        marks = λ number named e. absurd (omega (arith, e, from, table, marks-below number named));
        zone_marks = λ number at other refers e. absurd (omega (arith, e, from, table, zone_marks-below number at other refers));
      }

  -- ---- an inode

  unnamed_inode : (number : ℕ) (bytes part : List ℕ) → IsInode volume.layout number → IsUnnamed volume old number
      → Harmless volume old (inode_place volume.layout number).sector bytes → length part ≡ inode_size volume.layout.kind
      → Harmless volume old (inode_place volume.layout number).sector (with_part bytes (inode_place volume.layout number).at part)
  unnamed_inode number bytes part range unnamed harmless long =
      let from : 2 * table_start volume.layout ≤ (inode_place volume.layout number).sector = place-from volume.layout Lies number in
      let below : (inode_place volume.layout number).sector < 2 * volume.layout.first = place-below volume.layout Lies number range.0 range.1 in
      let fits : (inode_place volume.layout number).at + length part ≤ length bytes = omega (arith, place-offset volume.layout number, offset-fits volume.layout.kind number, long, harmless.long) in
      record {
        long = length-with_part bytes (inode_place volume.layout number).at part fits ∙ harmless.long;
        super = λ e. absurd (omega (arith, e, from));
        nodes = λ other named e.
            let apart : other ≢ number = λ same. let P : ℕ → Type 0 = λ n. NamedIn volume old n in unnamed (subst P same named) in
            let some = (sound.parts.in_range other named).0 in
            part-other bytes (inode_place volume.layout number).at part fits (inode_place volume.layout other).at (inode_size volume.layout.kind)
            (omega (arith, place-offset volume.layout other, offset-fits volume.layout.kind other, harmless.long))
            (stands other (offsets-apart volume.layout.kind other number some range.0 apart (place-row volume.layout other number e)))
            ∙ harmless.nodes other named e;
        zones = λ other at zone refers e. absurd (omega (arith, below, zone-from other at zone (inode_place volume.layout number).sector refers e));
        marks = λ other named e. absurd (omega (arith, e, from, marks-below other named));
        zone_marks = λ other at zone refers e. absurd (omega (arith, e, from, zone_marks-below other at zone refers));
      }
    where
      stands : (other : ℕ)
          → (offset volume.layout.kind other + inode_size volume.layout.kind ≤ offset volume.layout.kind number) ⊎ (offset volume.layout.kind number + inode_size volume.layout.kind ≤ offset volume.layout.kind other)
          → ((inode_place volume.layout other).at + inode_size volume.layout.kind ≤ (inode_place volume.layout number).at) ⊎ ((inode_place volume.layout number).at + length part ≤ (inode_place volume.layout other).at)
      stands other (inl before) = inl (omega (arith, before, place-offset volume.layout other, place-offset volume.layout number))
      stands other (inr behind) = inr (omega (arith, behind, long, place-offset volume.layout other, place-offset volume.layout number))

  -- ---- bitmap bits

  bitmap : (sector : ℕ) (bytes : List ℕ) → IsOfBitmaps volume.layout sector → length bytes ≡ 512
      → ((number : ℕ) → NamedIn volume old number → inode_mark_sector number ≡ sector → bit bytes (number % 4096) ≡ true)
      → ((number : ℕ) (at : Pointer) (zone : ℕ) → RefersIn volume old number at zone → zone_mark_sector volume.layout zone ≡ sector → bit bytes (zone_bit volume.layout zone % 4096) ≡ true)
      → Harmless volume old sector bytes
  bitmap sector bytes range long marks zone_marks =
      let table = Lies.table in
      record {
        long = long;
        super = λ e. absurd (omega (arith, e, range.0));
        nodes = λ number named e. absurd (omega (arith, e, range.1, place-from volume.layout Lies number));
        zones = λ number at zone refers e. absurd (omega (arith, range.1, table, zone-from number at zone sector refers e));
        marks = marks;
        zone_marks = zone_marks;
      }

  set_bit : (sector at : ℕ) (bytes : List ℕ) → IsOfBitmaps volume.layout sector → at < 4096 → Harmless volume old sector bytes → Harmless volume old sector (with_bit bytes at true)
  set_bit sector at bytes range small harmless =
      let fits : at / 8 < length bytes = omega (arith, small, harmless.long) in
      bitmap sector (with_bit bytes at true) range (length-with_bit bytes at true ∙ harmless.long)
      (λ number named e. bit-set bytes at fits (number % 4096) (harmless.marks number named e))
      (λ number there zone refers e. bit-set bytes at fits (zone_bit volume.layout zone % 4096) (harmless.zone_marks number there zone refers e))

  clear_inode : (number : ℕ) (bytes : List ℕ) → IsInode volume.layout number → IsUnnamed volume old number → Harmless volume old (inode_mark_sector number) bytes
      → Harmless volume old (inode_mark_sector number) (with_bit bytes (number % 4096) false)
  clear_inode number bytes range unnamed harmless =
      let fits : number % 4096 / 8 < length bytes = omega (arith, harmless.long) in
      let low = mark-below volume.layout Lies number range.1 in
      let inside : IsOfBitmaps volume.layout (inode_mark_sector number) = (omega arith, omega (arith, low)) in
      bitmap (inode_mark_sector number) (with_bit bytes (number % 4096) false) inside (length-with_bit bytes (number % 4096) false ∙ harmless.long)
      (λ other named e.
      let apart : other % 4096 ≢ number % 4096 = λ same.
      let equal : other ≡ number = omega (arith, same, e) in
      let P : ℕ → Type 0 = λ n. NamedIn volume old n in
      unnamed (subst P equal named) in
      bit-clear bytes (number % 4096) fits (other % 4096) apart (harmless.marks other named e))
      (λ other at zone refers e. absurd (omega (arith, e, low, zone_mark-from volume.layout Lies zone)))

  clear_zone : (zone : ℕ) (bytes : List ℕ) → IsDataZone volume.layout zone → IsUnused volume old zone → Harmless volume old (zone_mark_sector volume.layout zone) bytes
      → Harmless volume old (zone_mark_sector volume.layout zone) (with_bit bytes (zone_bit volume.layout zone % 4096) false)
  clear_zone zone bytes range unused harmless =
      let fits : zone_bit volume.layout zone % 4096 / 8 < length bytes = omega (arith, harmless.long) in
      let from = zone_mark-from volume.layout Lies zone in
      let inside : IsOfBitmaps volume.layout (zone_mark_sector volume.layout zone) = (omega (arith, from), zone_mark-below volume.layout Lies zone range.1) in
      bitmap (zone_mark_sector volume.layout zone) (with_bit bytes (zone_bit volume.layout zone % 4096) false) inside (length-with_bit bytes (zone_bit volume.layout zone % 4096) false ∙ harmless.long)
      (λ number named e. absurd (omega (arith, e, from, marks-below number named)))
      (λ number at other refers e.
      let apart : zone_bit volume.layout other % 4096 ≢ zone_bit volume.layout zone % 4096 = λ same.
      let low = (sound.parts.zone_range number at other refers).0 in
      let equal : other ≡ zone = omega (arith, same, e, low, range.0) in
      let P : ℕ → Type 0 = λ n. RefersIn volume old number at n in
      unused number at (subst P equal refers) in
      bit-clear bytes (zone_bit volume.layout zone % 4096) fits (zone_bit volume.layout other % 4096) apart (harmless.zone_marks number at other refers e))

-- ---- the laws

pub region_law : RegionLaw
unfolding IsSound
region_law volume image sound = regions volume image sound

pub unused_zone_law : UnusedZoneLaw
unfolding IsSound
unused_zone_law volume old zone sector bytes sound = unused_zone volume old sound zone sector bytes

pub unnamed_inode_law : UnnamedInodeLaw
unfolding IsSound
unnamed_inode_law volume old number bytes part sound = unnamed_inode volume old sound number bytes part

pub set_bit_law : SetBitLaw
unfolding IsSound
set_bit_law volume old sector at bytes sound = set_bit volume old sound sector at bytes

pub clear_inode_law : ClearInodeLaw
unfolding IsSound
clear_inode_law volume old number bytes sound = clear_inode volume old sound number bytes

pub clear_zone_law : ClearZoneLaw
unfolding IsSound
clear_zone_law volume old zone bytes sound = clear_zone volume old sound zone bytes
