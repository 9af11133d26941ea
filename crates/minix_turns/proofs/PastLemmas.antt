-- The entry at a place past a directory's size, once its bytes were written.
use Rattle.std.proofs.Common.{◌≡◌, ◌≤◌, ◌+◌, ◌*◌, ◌/◌, ◌%◌, ◌==◌, ℕ, Bool, true, false, List, length, refl, sym, ◌∙◌, ap, arith}
use Rattle.std.proofs.lemmas.Bool.{eqb-true}
use Rattle.lilo_model.specs.Bytes.{part_of, with_part}
use Rattle.lilo_model.specs.Disks.{Image}
use Rattle.lilo_model.specs.MinixEntries.{entry_of, entry_in, entries_per_block}
use Rattle.lilo_model.specs.MinixLayout.{entry_size}
use Rattle.lilo_model.specs.MinixNames.{zone_number, block, entry, Refers, IsSound}
use Rattle.lilo_model.specs.MinixParts.{Parts, Volume, block_pointer, zone_bytes, parts_of}
use Rattle.minix_change_laws.specs.Only.{zone_of_entry}
use Rattle.minix_change_laws.proofs.Blocks.{entry-fits, index-below, part-same}
use Rattle.minix_change_laws.proofs.Only.{directory-refers}
use Rattle.minix_change_laws.proofs.Seen.{opened}
use Rattle.minix_change_laws.specs.Part.{HasZonePart, PartIsWritten, offset_in_block, IsPast}
use Rattle.minix_change_laws.proofs.Part.{part_law}
use Rattle.minix_change_laws.proofs.Unseen.{seen_past_law}

module _ (volume : Volume) (old image : Image) (directory place : ℕ) (bytes : List ℕ) (sound : IsSound volume old) (past : IsPast volume.layout (parts_of volume old) directory place) (size : length bytes ≡ entry_size volume.layout.kind)
    (has : HasZonePart volume old image (zone_of_entry volume.layout (parts_of volume old) directory place) (offset_in_block volume.layout place) bytes) where
  abbrev Was : Parts
  Was = parts_of volume old

  abbrev Now : Parts
  Now = parts_of volume image

  abbrev Zone : ℕ
  Zone = zone_of_entry volume.layout Was directory place

  abbrev Size : ℕ
  Size = entry_size volume.layout.kind

  abbrev Index : ℕ
  Index = place % entries_per_block volume.layout.kind

  refers : Refers volume.layout Was directory (block_pointer volume.layout.kind (place / entries_per_block volume.layout.kind)) Zone
  refers = directory-refers volume.layout Was directory place past.named past.is Zone past.some refl

  written : PartIsWritten volume old image Zone (offset_in_block volume.layout place) bytes
  written =
      part_law volume old image Zone (offset_in_block volume.layout place) bytes sound
      ((opened volume old sound).parts.zone_range directory (block_pointer volume.layout.kind (place / entries_per_block volume.layout.kind)) Zone refers) has

  -- its block lies where it lay
  zone-now : zone_number volume.layout Now directory (place / entries_per_block volume.layout.kind) ≡ Zone
  unfolding zone_number
  zone-now = ((seen_past_law volume old image directory place bytes sound past size has).sees.stays directory (block_pointer volume.layout.kind (place / entries_per_block volume.layout.kind)) Zone refers past.is).is

  inside : Size * Index + length bytes ≤ length (Was.zone Zone)
  inside =
      let fits = entry-fits volume.layout.kind Index (index-below volume.layout.kind place) in
      let long = written.long in
      omega (arith, fits, long, size)

  block-now : zone_bytes Now Zone ≡ with_part (Was.zone Zone) (Size * Index) bytes
  block-now = by_hole _ refl
    where
      by_hole : (hole : Bool) → (Zone == 0) ≡ hole → zone_bytes Now Zone ≡ with_part (Was.zone Zone) (Size * Index) bytes
      by_hole true is = absurd (past.some (eqb-true Zone 0 is))
      by_hole false is = rw is written.change.here

  pub past_entry : entry volume.layout Now directory place ≡ entry_of volume.layout.kind bytes
  unfolding entry block
  past_entry =
      ap (λ zone. entry_in volume.layout.kind (zone_bytes Now zone) Index) zone-now
      ∙ (ap (λ (held : List ℕ). entry_in volume.layout.kind held Index) block-now
      ∙ ap (entry_of volume.layout.kind)
      (ap (part_of (with_part (Was.zone Zone) (Size * Index) bytes) (Size * Index)) (sym size) ∙ part-same (Was.zone Zone) (Size * Index) bytes inside))
