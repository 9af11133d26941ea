-- Parts of zones with other bytes that no name sees.
use Rattle.std.proofs.Common.{◌≡◌, ◌≢◌, ℕ, ◌+◌, ◌*◌, ◌/◌, ◌%◌, ◌<◌, ◌≤◌, ◌==◌, ◌⊎◌, Bool, true, false, List, length, refl, sym, ◌∙◌, ap, arith, inl, inr}
use Rattle.std.proofs.lemmas.Bool.{eqb-true}
use Rattle.lilo_model.specs.Disks.{Image}
use Rattle.lilo_model.specs.MinixLayout.{numbers_in_zone, entry_size}
use Rattle.lilo_model.specs.MinixParts.{Parts, Volume, IsPointer, block_pointer, zone_bytes, parts_of}
use Rattle.lilo_model.specs.MinixEntries.{entry_of, entry_in, entries_per_block, places}
use Rattle.lilo_model.specs.MinixNames.{pointer, block, entry, Refers, IsSound}
use Rattle.minix_change_laws.specs.Beside.{IsDataZone}
use Rattle.minix_change_laws.proofs.Replaced.{part-other}
use Rattle.minix_change_laws.proofs.Inode.{directory-zones, shorter}
use Rattle.minix_change_laws.proofs.Seen.{opened, seen_parts_law}
use Rattle.minix_change_laws.specs.Only.{zone_of_entry}
use Rattle.minix_change_laws.proofs.Only.{directory-refers}
use Rattle.minix_change_laws.proofs.Blocks.{entry-fits, index-below, place-known, entries-apart}
use Rattle.minix_change_laws.specs.Grows.{below}
use Rattle.minix_change_laws.specs.Changes.{MayFill}
use Rattle.minix_change_laws.proofs.Chain.{on-way}
use Rattle.minix_change_laws.proofs.Changes.{number_law, fill_law}
use Rattle.minix_change_laws.specs.Part.{HasZonePart, PartIsWritten, with_zone_part, number_bytes, offset_of_number, offset_in_block, IsPast}
use Rattle.minix_change_laws.specs.ZoneBytesLaws.{SeenNumberLaw, SeenPastLaw}
use Rattle.minix_change_laws.proofs.Part.{part_law}
use Rattle.minix_change_laws.proofs.Numbers.{number_bytes_law}

-- ---- a number

pub seen_number_law : SeenNumberLaw
seen_number_law volume old image directory outer index zone more sound may some small has =
    let parts_sound = (opened volume old sound).parts in
    let way : IsPointer volume.layout.kind (below outer index) = on-way volume.layout (below outer index) more may.place in
    let refers : Refers volume.layout (parts_of volume old) directory outer (pointer volume.layout (parts_of volume old) directory outer) = record {
      named = may.named;
      to = record { kind = directory-zones (parts_of volume old) directory may.is; place = shorter volume.layout outer.top index outer.trail way; is = refl; some = some };
    } in
    let range : IsDataZone volume.layout (pointer volume.layout (parts_of volume old) directory outer) = parts_sound.zone_range directory outer _ refers in
    let written = part_law volume old image (pointer volume.layout (parts_of volume old) directory outer) (offset_of_number volume.layout.kind index) (number_bytes volume.layout.kind zone) sound range has in
    let low : index < numbers_in_zone volume.layout.kind = way.within 0 0 (omega arith) in
    seen_parts_law volume old image sound written.sectors
    (number_law volume.layout (parts_of volume old) (parts_of volume image) directory outer index zone more _ parts_sound may some
    (number_bytes_law volume.layout ((parts_of volume old).zone (pointer volume.layout (parts_of volume old) directory outer)) index zone written.long low small) written.change)

-- ---- bytes past the size

module _ (volume : Volume) (old image : Image) (directory place : ℕ) (bytes : List ℕ) (sound : IsSound volume old) (past : IsPast volume.layout (parts_of volume old) directory place) (size : length bytes ≡ entry_size volume.layout.kind)
    (has : HasZonePart volume old image (zone_of_entry volume.layout (parts_of volume old) directory place) (offset_in_block volume.layout place) bytes) where
  abbrev Was : Parts
  Was = parts_of volume old

  abbrev Zone : ℕ
  Zone = zone_of_entry volume.layout (parts_of volume old) directory place

  abbrev Size : ℕ
  Size = entry_size volume.layout.kind

  abbrev Index : ℕ
  Index = place % entries_per_block volume.layout.kind

  range : IsDataZone volume.layout Zone
  range = (opened volume old sound).parts.zone_range directory (block_pointer volume.layout.kind (place / entries_per_block volume.layout.kind)) Zone
      (directory-refers volume.layout Was directory place past.named past.is Zone past.some refl)

  written : PartIsWritten volume old image Zone (offset_in_block volume.layout place) bytes
  written = part_law volume old image Zone (offset_in_block volume.layout place) bytes sound range has

  inside : Size * Index + length bytes ≤ length (Was.zone Zone)
  inside =
      let fits : Size * Index + Size ≤ 1024 = entry-fits volume.layout.kind Index (index-below volume.layout.kind place) in
      let long = written.long in
      omega (arith, fits, long, size)

  block-was : block volume.layout Was directory (place / entries_per_block volume.layout.kind) ≡ Was.zone Zone
  unfolding block
  block-was = by_hole _ refl
    where
      by_hole : (hole : Bool) → (Zone == 0) ≡ hole → zone_bytes Was Zone ≡ Was.zone Zone
      by_hole true is = absurd (past.some (eqb-true Zone 0 is))
      by_hole false is = rw is refl

  same-entry : (other : ℕ) → other < places volume.layout.kind (Was.node directory).size → other / entries_per_block volume.layout.kind ≡ place / entries_per_block volume.layout.kind
      → entry_in volume.layout.kind (with_zone_part Was Zone (offset_in_block volume.layout place) bytes) (other % entries_per_block volume.layout.kind) ≡ entry volume.layout Was directory other
  unfolding entry
  same-entry other low same =
      let before = past.past in
      let apart : other % entries_per_block volume.layout.kind ≢ Index = λ e. let one = place-known volume.layout.kind other place same e in absurd (omega (arith, one, low, before)) in
      let index : ℕ = other % entries_per_block volume.layout.kind in
      let fits : Size * index + Size ≤ 1024 = entry-fits volume.layout.kind index (index-below volume.layout.kind other) in
      let long = written.long in
      ap (entry_of volume.layout.kind) (part-other (Was.zone Zone) (Size * Index) bytes inside (Size * index) Size (omega (arith, fits, long)) (by_order (entries-apart volume.layout.kind index Index apart)))
      ∙ (ap (λ all. entry_in volume.layout.kind all index) (sym block-was)
      ∙ ap (λ n. entry_in volume.layout.kind (block volume.layout Was directory n) index) (sym same))
    where
      by_order : (Size * (other % entries_per_block volume.layout.kind) + Size ≤ Size * Index) ⊎ (Size * Index + Size ≤ Size * (other % entries_per_block volume.layout.kind))
          → (Size * (other % entries_per_block volume.layout.kind) + Size ≤ Size * Index) ⊎ (Size * Index + length bytes ≤ Size * (other % entries_per_block volume.layout.kind))
      by_order (inl first) = inl first
      by_order (inr last) = inr (omega (arith, last, size))

  may-fill : MayFill volume.layout Was directory place (with_zone_part Was Zone (offset_in_block volume.layout place) bytes)
  may-fill = record { named = past.named; is = past.is; some = past.some; reached = past.reached; near = past.near; same = same-entry }

pub seen_past_law : SeenPastLaw
seen_past_law volume old image directory place bytes sound past size has =
    let done = written volume old image directory place bytes sound past size has in
    seen_parts_law volume old image sound done.sectors
    (fill_law volume.layout (parts_of volume old) (parts_of volume image) directory place _ (opened volume old sound).parts (may-fill volume old image directory place bytes sound past size has) done.change)
