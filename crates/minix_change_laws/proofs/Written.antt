-- Other bytes of an entry are a change of that entry alone.
use Rattle.std.proofs.Common.{◌≡◌, ◌≢◌, ℕ, ◌+◌, ◌*◌, ◌/◌, ◌%◌, ◌<◌, ◌≤◌, ◌==◌, ◌⊎◌, Bool, true, false, List, length, refl, sym, ◌∙◌, ap, subst, arith, eq-eqb, inl, inr}
use Rattle.std.proofs.lemmas.Bool.{eqb-true, ne_eqb, and_right}
use Rattle.lilo_model.specs.Bytes.{part_of, with_part}
use Rattle.lilo_model.specs.Disks.{Image}
use Rattle.lilo_model.specs.MinixLayout.{entry_size, reach, super_at}
use Rattle.lilo_model.specs.MinixParts.{Parts, Volume, Pointer, has_zones, block_pointer, zone_bytes, parts_of}
use Rattle.lilo_model.specs.MinixEntries.{entry_of, entry_in, entries_per_block, places}
use Rattle.lilo_model.specs.MinixNames.{zone_number, block, entry, Sound, HasSound, IsSound}
use Rattle.minix_laws.proofs.Pointers.{pointer_law}
use Rattle.minix_change_laws.specs.Beside.{IsDataZone, NamedIn, RefersIn}
use Rattle.minix_change_laws.proofs.Replaced.{part-other}
use Rattle.minix_change_laws.specs.Only.{zone_of_entry, ChangesOnlyEntry, KeepsInode}
use Rattle.minix_change_laws.specs.Comes.{IsFit}
use Rattle.minix_change_laws.specs.Part.{HasZonePart, PartIsWritten}
use Rattle.minix_change_laws.proofs.Part.{part_law}
use Rattle.minix_change_laws.specs.Written.{place_of_entry, place_in, IsPlaced, HasEntryBytes, EntryIsWritten}
use Rattle.minix_change_laws.specs.EntryBytesLaws.{WrittenLaw, WriteEntryLaw}
use Rattle.minix_change_laws.proofs.Inode.{same-node, directory-zones, pointer-same}
use Rattle.minix_change_laws.proofs.Only.{directory-refers, above-kept}
use Rattle.minix_change_laws.proofs.Blocks.{entry-fits, entry-in_sector, some-entry, index-below, place-known, block-below, entries-apart, part-same}

closed : (volume : Volume) (image : Image) → HasSound volume image → IsSound volume image
unfolding IsSound
closed volume image sound = sound

module _ (volume : Volume) (old image : Image) (directory place : ℕ) (bytes : List ℕ) (sound : HasSound volume old) (placed : IsPlaced volume old directory place) (written : HasEntryBytes volume old image directory place bytes) where
  abbrev Was : Parts
  Was = parts_of volume old

  abbrev Now : Parts
  Now = parts_of volume image

  abbrev Zone : ℕ
  Zone = zone_of_entry volume.layout (parts_of volume old) directory place

  abbrev Per : ℕ
  Per = entries_per_block volume.layout.kind

  abbrev Size : ℕ
  Size = entry_size volume.layout.kind

  abbrev Index : ℕ
  Index = place % entries_per_block volume.layout.kind

  -- the pointer to the entry's block
  abbrev Here : Pointer
  Here = block_pointer volume.layout.kind (place / entries_per_block volume.layout.kind)

  refers-here : RefersIn volume old directory Here Zone
  refers-here = directory-refers volume.layout Was directory place placed.named placed.is Zone placed.some refl

  range : (volume.layout.first ≤ Zone) × (Zone < volume.layout.zones)
  range = sound.parts.zone_range directory Here Zone refers-here

  offset-fits : Size * Index + Size ≤ 1024
  offset-fits = entry-fits volume.layout.kind Index (index-below volume.layout.kind place)

  offset-below : Size * Index < 1024
  offset-below = let some : 0 < Size = some-entry volume.layout.kind in omega (arith, offset-fits, some)

  -- ---- the part of the zone

  has-part : HasZonePart volume old image Zone (Size * Index) bytes
  unfolding place_of_entry
  has-part = record {
    below = offset-below;
    inside = let low : Size * Index % 512 + Size ≤ 512 = entry-in_sector volume.layout.kind Index (index-below volume.layout.kind place) in omega (arith, low, written.long);
    here = written.here;
    others = written.others;
  }

  part : PartIsWritten volume old image Zone (Size * Index) bytes
  part = part_law volume old image Zone (Size * Index) bytes (closed volume old sound) range has-part

  node-kept : (number : ℕ) → 0 < number → number ≤ volume.layout.inodes → Now.node number ≡ Was.node number
  node-kept number some low = part.change.nodes number (some, low)

  zone-kept : (zone : ℕ) → IsDataZone volume.layout zone → zone ≢ Zone → Now.zone zone ≡ Was.zone zone
  zone-kept = part.change.others

  node-named : (number : ℕ) → NamedIn volume old number → Now.node number ≡ Was.node number
  node-named number named = part.change.nodes number (sound.parts.in_range number named)

  zones-named : (number : ℕ) (at : Pointer) (zone : ℕ) → RefersIn volume old number at zone → zone ≢ Zone → Now.zone zone ≡ Was.zone zone
  zones-named number at zone refers apart = part.change.others zone (sound.parts.zone_range number at zone refers) apart

  zone-is : Now.zone Zone ≡ with_part (Was.zone Zone) (Size * Index) bytes
  zone-is = part.change.here

  zone-long : length (Was.zone Zone) ≡ 1024
  zone-long = part.long

  inside : Size * Index + length bytes ≤ length (Was.zone Zone)
  inside = omega (arith, offset-fits, zone-long, written.long)

  -- ---- the directory's blocks

  zones-are : has_zones (Was.node directory) ≡ true
  zones-are = directory-zones Was directory placed.is

  numbers-same : (index : ℕ) → zone_number volume.layout Now directory index ≡ zone_number volume.layout Was directory index
  unfolding zone_number
  numbers-same index = pointer-same volume.layout Was Now directory (same-node (Was.node directory) (Now.node directory) (node-named directory placed.named)).numbers
      (above-kept volume.layout Was directory place placed.named placed.is Now sound.parts zones-named directory placed.named)
      zones-are (block_pointer volume.layout.kind index) ((pointer_law volume.layout.kind).is index)

  -- the block with the entry
  block-here : block volume.layout Now directory (place / entries_per_block volume.layout.kind) ≡ with_part (Was.zone Zone) (Size * Index) bytes
  unfolding block
  block-here = ap (zone_bytes Now) (numbers-same (place / entries_per_block volume.layout.kind)) ∙ by_hole _ refl
    where
      by_hole : (hole : Bool) → (Zone == 0) ≡ hole → zone_bytes Now Zone ≡ with_part (Was.zone Zone) (Size * Index) bytes
      by_hole true is = absurd (placed.some (eqb-true Zone 0 is))
      by_hole false is = rw is zone-is

  block-was : block volume.layout Was directory (place / entries_per_block volume.layout.kind) ≡ Was.zone Zone
  unfolding block
  block-was = by_hole _ refl
    where
      by_hole : (hole : Bool) → (Zone == 0) ≡ hole → zone_bytes Was Zone ≡ Was.zone Zone
      by_hole true is = absurd (placed.some (eqb-true Zone 0 is))
      by_hole false is = rw is refl

  -- another block
  block-other : (index : ℕ) → index < reach volume.layout.kind → index ≢ place / entries_per_block volume.layout.kind → block volume.layout Now directory index ≡ block volume.layout Was directory index
  unfolding block zone_number
  block-other index low apart = ap (zone_bytes Now) (numbers-same index) ∙ by_hole (zone_number volume.layout Was directory index) refl _ refl
    where
      by_hole : (zone : ℕ) → zone_number volume.layout Was directory index ≡ zone → (hole : Bool) → (zone == 0) ≡ hole → zone_bytes Now zone ≡ zone_bytes Was zone
      by_hole zone to true is = rw is refl
      by_hole zone to false is =
          let some : zone ≢ 0 = λ e. let t = eq-eqb zone 0 e in cc in
          let refers : RefersIn volume old directory (block_pointer volume.layout.kind index) zone =
          record { named = placed.named; to = record { kind = zones-are; place = (pointer_law volume.layout.kind).is index; is = to; some = some } } in
          let near : place / entries_per_block volume.layout.kind < reach volume.layout.kind =
          let one = block-below volume.layout.kind (Was.node directory).size place placed.below in
          let two = placed.reached in
          omega (arith, one, two) in
          let other : zone ≢ Zone = λ same.
          let both = sound.parts.once directory directory (block_pointer volume.layout.kind index) Here zone refers (subst (RefersIn volume old directory Here) (sym same) refers-here) in
          apart ((pointer_law volume.layout.kind).apart index (place / entries_per_block volume.layout.kind) low near both.1) in
          rw is (zones-named directory (block_pointer volume.layout.kind index) zone refers other)

  -- ---- the directory's entries

  says : entry volume.layout Now directory place ≡ entry_of volume.layout.kind bytes
  unfolding entry
  says =
      ap (λ all. entry_in volume.layout.kind all Index) block-here
      ∙ ap (entry_of volume.layout.kind) (ap (part_of (with_part (Was.zone Zone) (Size * Index) bytes) (Size * Index)) (sym written.long) ∙ part-same (Was.zone Zone) (Size * Index) bytes inside)

  other-index : (index : ℕ) → index < Per → index ≢ Index → entry_in volume.layout.kind (with_part (Was.zone Zone) (Size * Index) bytes) index ≡ entry_in volume.layout.kind (Was.zone Zone) index
  other-index index low apart =
      let fits : Size * index + Size ≤ 1024 = entry-fits volume.layout.kind index low in
      ap (entry_of volume.layout.kind) (part-other (Was.zone Zone) (Size * Index) bytes inside (Size * index) Size (omega (arith, fits, zone-long)) (by_order (entries-apart volume.layout.kind index Index apart)))
    where
      by_order : (Size * index + Size ≤ Size * Index) ⊎ (Size * Index + Size ≤ Size * index) → (Size * index + Size ≤ Size * Index) ⊎ (Size * Index + length bytes ≤ Size * index)
      by_order (inl first) = inl first
      by_order (inr last) = inr (omega (arith, last, written.long))

  others : (other : ℕ) → other < places volume.layout.kind (Was.node directory).size → other ≢ place → entry volume.layout Now directory other ≡ entry volume.layout Was directory other
  unfolding entry
  others other low apart = by_block _ refl
    where
      by_block : (same : Bool) → (other / entries_per_block volume.layout.kind == place / entries_per_block volume.layout.kind) ≡ same
          → entry_in volume.layout.kind (block volume.layout Now directory (other / entries_per_block volume.layout.kind)) (other % entries_per_block volume.layout.kind)
          ≡ entry_in volume.layout.kind (block volume.layout Was directory (other / entries_per_block volume.layout.kind)) (other % entries_per_block volume.layout.kind)
      by_block true is =
          let same : other / entries_per_block volume.layout.kind ≡ place / entries_per_block volume.layout.kind = eqb-true (other / entries_per_block volume.layout.kind) (place / entries_per_block volume.layout.kind) is in
          let far : other % entries_per_block volume.layout.kind ≢ Index = λ e. apart (place-known volume.layout.kind other place same e) in
          let P : ℕ → Type 0 = λ n.
          entry_in volume.layout.kind (block volume.layout Now directory n) (other % entries_per_block volume.layout.kind)
          ≡ entry_in volume.layout.kind (block volume.layout Was directory n) (other % entries_per_block volume.layout.kind) in
          subst P (sym same)
          (ap (λ all. entry_in volume.layout.kind all (other % entries_per_block volume.layout.kind)) block-here
          ∙ (other-index (other % entries_per_block volume.layout.kind) (index-below volume.layout.kind other) far
          ∙ ap (λ all. entry_in volume.layout.kind all (other % entries_per_block volume.layout.kind)) (sym block-was)))
      by_block false is =
          let far : other / entries_per_block volume.layout.kind ≢ place / entries_per_block volume.layout.kind = λ e. let t = eq-eqb (other / entries_per_block volume.layout.kind) (place / entries_per_block volume.layout.kind) e in cc in
          let near : other / entries_per_block volume.layout.kind < reach volume.layout.kind =
          let one = block-below volume.layout.kind (Was.node directory).size other low in
          let two = placed.reached in
          omega (arith, one, two) in
          ap (λ all. entry_in volume.layout.kind all (other % entries_per_block volume.layout.kind)) (block-other (other / entries_per_block volume.layout.kind) near far)

  -- ---- all of it

  only : ChangesOnlyEntry volume.layout Was Now directory place
  only = record {
    change = record { named = placed.named; is = placed.is; below = placed.below; node = node-named directory placed.named; others = others };
    nodes = node-named;
    marks = λ number named. part.change.marks number (sound.parts.in_range number named);
    zones = zones-named;
    zone_marks = λ number at zone refers. part.change.zone_marks zone (sound.parts.zone_range number at zone refers);
  }

  kept : (number : ℕ) → IsFit volume.layout Was number → number ≢ directory → KeepsInode volume.layout Was Now number
  kept number fit apart = record {
    node = node-kept number fit.range.0 fit.range.1;
    mark = part.change.marks number fit.range;
    zones = λ at zone to. zone-kept zone (fit.zone_range at zone to) (λ same.
        apart (fit.apart directory at Here zone to (subst (RefersIn volume old directory Here) (sym same) refers-here)));
    zone_marks = λ at zone to. part.change.zone_marks zone (fit.zone_range at zone to);
  }

  sound-image : Sound volume.layout Now → IsSound volume image
  unfolding IsSound
  sound-image parts = record {
    super = ap (λ sector. super_at sector volume.span.count) part.sectors.super ∙ sound.super;
    whole = part.sectors.whole;
    parts = parts;
  }

  entry-written : EntryIsWritten volume old image directory place bytes
  entry-written = record { only = only; says = says; kept = kept; sound = sound-image }

pub written_law : WrittenLaw
unfolding IsSound
written_law volume old image directory place bytes sound placed written = entry-written volume old image directory place bytes sound placed written

-- ---- one write

pub write_entry_law : WriteEntryLaw
write_entry_law volume old directory place bytes long = record {
  long = long;
  here = rw (eq-eqb volume.span.disk volume.span.disk refl, eq-eqb (volume.span.start + (place_in volume old directory place).sector) (volume.span.start + (place_in volume old directory place).sector) refl) refl;
  others = λ sector below apart.
      let far : (volume.span.start + (place_in volume old directory place).sector == volume.span.start + sector) ≡ false = ne_eqb (volume.span.start + (place_in volume old directory place).sector) (volume.span.start + sector) (λ e. apart (omega (arith, e))) in
      rw (and_right (volume.span.disk == volume.span.disk) (volume.span.start + (place_in volume old directory place).sector == volume.span.start + sector) far) refl;
}
