-- The Mapped sectors are the same on images that are the same on these.
use Rattle.std.proofs.Common.{◌≡◌, ℕ, List, [], ◌∷◌, ◌++◌, map, Option, None, Some, Result, Ok, Err, refl, ap, subst, ◌∙◌}
use Rattle.std.specs.List.{flat_map}
use Rattle.lilo_model.specs.Checks.{each}
use Rattle.lilo_model.specs.Disks.{Image, Machine, Span, DiskSector, bytes_at}
use Rattle.lilo_model.specs.Slots as slots
use Rattle.lilo_model.specs.Slots.{Slot, place_at}
use Rattle.lilo_model.specs.BootSector.{MapFault, BootSector, boot_at}
use Rattle.lilo_model.specs.Table.{Descriptor, table_at}
use Rattle.lilo_model.specs.Section.{file_listing}
use Rattle.lilo_model.specs.Mapped.{found_places, slot_places, optional_places, listing_places, file_places, entry_places, table_places, behind_table, map_places, behind_sector, mapped_sectors}
use Rattle.boot_laws.specs.SameOn.{SameMappedLaw}
use Rattle.boot_laws.proofs.Same.{Same, same-from_all, same-front, same-back, same-bytes}
use Rattle.boot_laws.proofs.Listings.{listing-same}
use Rattle.boot_laws.proofs.Entries.{EntrySame, EntriesSame, entry-parts}
use Rattle.boot_laws.proofs.Maps.{table_checks, found-all, MapSame, map-parts}

module _ (image other : Image) (machine : Machine) where
  listed-places : (len chain : ℕ) (slot : Slot) → Same image other (listing_places (file_listing image machine slot len chain))
      → listing_places (file_listing other machine slot len chain) ≡ listing_places (file_listing image machine slot len chain)
  listed-places len chain slot same =
      let listing = file_listing image machine slot len chain in
      ap listing_places (listing-same image other machine slot len chain (same-front image other listing.looked listing.places same))

  file-places : (len chain : ℕ) (slot : Option Slot) → Same image other (file_places (λ slot. file_listing image machine slot len chain) slot)
      → file_places (λ slot. file_listing other machine slot len chain) slot ≡ file_places (λ slot. file_listing image machine slot len chain) slot
  file-places len chain None same = refl
  file-places len chain (Some slot) same = listed-places len chain slot same

  entry-places : (entry : Descriptor) → EntrySame image other machine entry → entry_places other machine entry ≡ entry_places image machine entry
  unfolding entry_places
  entry-places entry same =
      let texts = slot_places machine entry.options ++ optional_places machine entry.extra in
      ap (λ main. texts ++ main ++ file_places (λ slot. file_listing other machine slot entry.initrd_length entry.initrd_chain) entry.initrd) (listed-places entry.main_length entry.chain entry.first same.main)
      ∙ ap (λ initrd. texts ++ listing_places (file_listing image machine entry.first entry.main_length entry.chain) ++ initrd) (file-places entry.initrd_length entry.initrd_chain entry.initrd same.initrd)

  entries-places : (entries : List Descriptor) → EntriesSame image other machine entries → flat_map (entry_places other machine) entries ≡ flat_map (entry_places image machine) entries
  entries-places [] same = refl
  entries-places (entry ∷ entries) same =
      let head = same-front image other (entry_places image machine entry) (flat_map (entry_places image machine) entries) same in
      let tail = same-back image other (entry_places image machine entry) (flat_map (entry_places image machine) entries) same in
      ap (λ places. places ++ flat_map (entry_places other machine) entries) (entry-places entry (entry-parts image other machine entry head))
      ∙ ap (λ places. entry_places image machine entry ++ places) (entries-places entries tail)

  table-places : (boot : BootSector) (table : Result (List Descriptor) MapFault) → Same image other (table_places image machine boot table) → table_places other machine boot table ≡ table_places image machine boot table
  table-places boot (Err fault) same = refl
  table-places boot (Ok entries) same =
      let message = file_places (λ slot. file_listing image machine slot boot.message_length boot.message_chain) boot.message in
      let behind = flat_map (entry_places image machine) entries in
      ap (λ places. places ++ flat_map (entry_places other machine) entries) (file-places boot.message_length boot.message_chain boot.message (same-front image other message behind same))
      ∙ ap (λ places. message ++ places) (entries-places entries (same-back image other message behind same))

  -- what a table leads to of which these places are found
  behind-places : (boot : BootSector) (tried : Result (List DiskSector) slots.AddressFault)
      → ((places : List DiskSector) → tried ≡ Ok places → Same image other places)
      → Same image other (behind_table image machine boot tried) → behind_table other machine boot tried ≡ behind_table image machine boot tried
  behind-places boot (Err fault) table same = refl
  behind-places boot (Ok places) table same =
      ap (λ sectors. table_places other machine boot (table_at boot.names sectors)) (same-bytes image other places (table places refl))
      ∙ table-places boot (table_at boot.names (map (bytes_at image) places)) same

  map-places : (boot : BootSector) → MapSame image other machine boot → map_places other machine boot ≡ map_places image machine boot
  unfolding map_places
  map-places boot same =
      ap (λ behind. slot_places machine boot.line ++ found_places (table_checks machine boot.table) ++ behind)
      (behind-places boot (each (table_checks machine boot.table)) (λ places all. subst (Same image other) (found-all (table_checks machine boot.table) places all) same.table) same.behind)

  behind-sector : (found : Result BootSector MapFault) → Same image other (behind_sector image machine found) → behind_sector other machine found ≡ behind_sector image machine found
  behind-sector (Err fault) same = refl
  behind-sector (Ok boot) same = map-places boot (map-parts image other machine boot same)

  mapped-same : (span : Span) → Same image other (mapped_sectors image machine span) → mapped_sectors other machine span ≡ mapped_sectors image machine span
  unfolding mapped_sectors
  mapped-same span same =
      let first : DiskSector = record { disk = span.disk; sector = span.start } in
      ap (λ bytes. first ∷ behind_sector other machine (boot_at bytes)) same.0
      ∙ ap (λ places. first ∷ places) (behind-sector (boot_at (image span.disk span.start)) same.1)

pub same_mapped_law : SameMappedLaw
same_mapped_law image other machine span same = mapped-same image other machine span (same-from_all image other (mapped_sectors image machine span) same)
