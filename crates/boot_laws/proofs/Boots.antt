-- A boot is the same on images that are the same on its Mapped sectors.
use Rattle.std.proofs.Common.{◌≡◌, ℕ, List, ◌++◌, codes, Option, None, Some, option_map, Result, Ok, Err, refl, ap, subst, ◌∙◌}
use Rattle.lilo_model.specs.Checks.{◌>>=◌, with_fault}
use Rattle.lilo_model.specs.Disks.{Image, Machine, Span}
use Rattle.lilo_model.specs.Slots as slots
use Rattle.lilo_model.specs.Slots.{place_at}
use Rattle.lilo_model.specs.BootSector.{MapFault, BadTable, NotOurs, BadVersion, BadLine, BootSector, boot_at}
use Rattle.lilo_model.specs.Table.{Descriptor}
use Rattle.lilo_model.specs.LineSector.{is_same_line}
use Rattle.lilo_model.specs.DefaultLine.{DefaultLine}
use Rattle.lilo_model.specs.Prompt.{Key, Picked, Decision}
use Rattle.lilo_model.specs.Choice.{choice, opening}
use Rattle.lilo_model.specs.Section.{Content, file_listing}
use Rattle.lilo_model.specs.Reason.{Reason, NotFound, map_reason}
use Rattle.lilo_model.specs.Mapped.{listing_places, file_places, table_places, behind_sector, mapped_sectors}
use Rattle.lilo_model.specs.Boot.{Boot, refused_boot, MapSectors, map_sectors, present_line, GoodMap, good_map, settings_of, message_of, message_check, middle_of, image_with_line, ended_boot, entry_ending, chosen_boot, picked_entry, decided_boot, decision_at, opening_at, prompted_boot, end_of, map_boot, boot_by, whole_boot}
use Rattle.boot_laws.specs.SameOn.{MappedLaw}
use Rattle.boot_laws.proofs.Same.{Same, same-from_all}
use Rattle.boot_laws.proofs.Checks.{bind-same, told-given}
use Rattle.boot_laws.proofs.Written.{Cuts, line-cuts, written-same, listing-keeps}
use Rattle.boot_laws.proofs.Entries.{EntrySame, EntriesSame, middle_of-same, entry_ending-same, listed_entries-same, picked-same}
use Rattle.boot_laws.proofs.Maps.{MapSame, map-parts, present_line-same, message_of-same, map_sectors-same, map_sectors-behind, good_map-table, table-entries}

module _ (image other : Image) (machine : Machine) where
  -- ---- the chosen entry

  file-keeps : (one two image' : Image) → Cuts image image' → (entry : Descriptor) (slot : Option slots.Slot) → Same one two (file_places (λ slot. file_listing image machine slot entry.initrd_length entry.initrd_chain) slot)
      → Same one two (file_places (λ slot. file_listing image' machine slot entry.initrd_length entry.initrd_chain) slot)
  file-keeps one two image' cuts entry None same = tt
  file-keeps one two image' cuts entry (Some slot) same = listing-keeps one two image image' cuts machine slot entry.initrd_length entry.initrd_chain same

  -- what an entry loads once the default line is written
  ending-same : (boot : BootSector) (line new : DefaultLine) (entry : Descriptor) (picked : Picked) (middle : List ℕ) (memory : ℕ) → EntrySame image other machine entry
      → entry_ending (image_with_line other machine boot line new) machine entry picked middle memory ≡ entry_ending (image_with_line image machine boot line new) machine entry picked middle memory
  unfolding image_with_line
  ending-same boot line new entry picked middle memory same =
      let image' = image_with_line image machine boot line new in
      let other' = image_with_line other machine boot line new in
      let stands = is_same_line line new in
      let place = place_at machine boot.line 0 in
      let cuts : Cuts image image' = line-cuts image new stands place in
      let main = file_listing image machine entry.first entry.main_length entry.chain in
      let initrd = file_places (λ slot. file_listing image machine slot entry.initrd_length entry.initrd_chain) entry.initrd in
      entry_ending-same image' other' machine entry picked middle memory
      (listing-keeps image' other' image image' cuts machine entry.first entry.main_length entry.chain (written-same image other new stands place (listing_places main) same.main))
      (file-keeps image' other' image' cuts entry entry.initrd (written-same image other new stands place initrd same.initrd))

  chosen-same : (boot : BootSector) (line : DefaultLine) (entry : Descriptor) (picked : Picked) (decision : Decision) (memory : ℕ) (middle : Result (List ℕ) Reason) → EntrySame image other machine entry
      → chosen_boot other machine boot line entry picked decision memory middle ≡ chosen_boot image machine boot line entry picked decision memory middle
  unfolding chosen_boot
  chosen-same boot line entry picked decision memory (Err reason) same = refl
  chosen-same boot line entry picked decision memory (Ok middle) same =
      ap (ended_boot (codes "LILO\n" ++ decision.shown ++ codes "Loading " ++ entry.name ++ codes "\n") decision.line decision.left)
      (ending-same boot line decision.line entry picked middle memory same)

  decided-same : (boot : BootSector) (line : DefaultLine) (decision : Decision) (memory : ℕ) (picked : Option (Descriptor × Picked))
      → ((entry : Descriptor) (by : Picked) → picked ≡ Some (entry, by) → EntrySame image other machine entry)
      → decided_boot other machine boot line decision memory picked ≡ decided_boot image machine boot line decision memory picked
  decided-same boot line decision memory None same = refl
  decided-same boot line decision memory (Some (entry, by)) same =
      ap (chosen_boot other machine boot line entry by decision memory) (middle_of-same image other machine entry (same entry by refl))
      ∙ chosen-same boot line entry by decision memory (middle_of image machine entry) (same entry by refl)

  -- ---- the prompt

  opening-same : (boot : BootSector) (good : GoodMap) (keys : List Key) → EntriesSame image other machine good.entries → opening_at other machine boot good keys ≡ opening_at image machine boot good keys
  unfolding opening_at
  opening-same boot good keys same = ap (λ entries. opening (settings_of boot) entries good.line keys) (listed_entries-same image other machine good same)

  decision-same : (boot : BootSector) (good : GoodMap) (message : Option Content) (keys : List Key) → EntriesSame image other machine good.entries → decision_at other machine boot good message keys ≡ decision_at image machine boot good message keys
  unfolding decision_at
  decision-same boot good message keys same =
      ap (λ entries. choice (settings_of boot) entries good.line (option_map (λ content. content.bytes) message) keys) (listed_entries-same image other machine good same)

  prompted-same : (boot : BootSector) (good : GoodMap) (message : Option Content) (keys : List Key) (memory : ℕ) → EntriesSame image other machine good.entries → prompted_boot other machine boot good message keys memory ≡ prompted_boot image machine boot good message keys memory
  unfolding prompted_boot
  prompted-same boot good message keys memory same =
      let decision = decision_at image machine boot good message keys in
      ap (λ decision. decided_boot other machine boot good.line decision memory (picked_entry good.entries decision.picked)) (decision-same boot good message keys same)
      ∙ decided-same boot good.line decision memory (picked_entry good.entries decision.picked) (λ entry by is. picked-same image other machine good.entries decision.picked entry by same is)

  -- ---- the map

  -- the boot from a good map on, its message among it
  abbrev message_boot : Image → BootSector → GoodMap → List Key → ℕ → Result Boot Boot
  message_boot image boot good keys memory =
      message_check good.line (opening_at image machine boot good keys) (message_of image machine boot) >>= λ a.
      Ok (prompted_boot image machine boot good (message_of image machine boot) keys memory)

  message-same : (boot : BootSector) (good : GoodMap) (keys : List Key) (memory : ℕ) → Same image other (table_places image machine boot (Ok good.entries)) → message_boot other boot good keys memory ≡ message_boot image boot good keys memory
  message-same boot good keys memory same =
      let entries : EntriesSame image other machine good.entries = table-entries image other machine boot (Ok good.entries) same in
      let message = message_of image machine boot in
      rw (opening-same boot good keys entries, message_of-same image other machine boot good.entries same, prompted-same boot good message keys memory entries) refl

  -- the boot from what was read before the prompt on
  abbrev sectors_boot : Image → BootSector → List Key → ℕ → MapSectors → Result Boot Boot
  sectors_boot image boot keys memory sectors =
      with_fault (λ fault. refused_boot (codes "LIL-\n") (present_line image machine boot) keys (map_reason fault)) (good_map sectors) >>= λ good.
      message_boot image boot good keys memory

  sectors-same : (boot : BootSector) (keys : List Key) (memory : ℕ) (sectors : MapSectors) → MapSame image other machine boot → map_sectors image machine boot ≡ Ok sectors → sectors_boot other boot keys memory sectors ≡ sectors_boot image boot keys memory sectors
  sectors-same boot keys memory sectors same is =
      let told = λ (fault : MapFault). refused_boot (codes "LIL-\n") (present_line image machine boot) keys (map_reason fault) in
      ap (λ line. with_fault (λ fault. refused_boot (codes "LIL-\n") line keys (map_reason fault)) (good_map sectors) >>= λ good. message_boot other boot good keys memory) (present_line-same image other machine boot same)
      ∙ bind-same (with_fault told (good_map sectors)) (λ good. message_boot image boot good keys memory) (λ good. message_boot other boot good keys memory) (λ good given.
      let table : sectors.table ≡ Ok good.entries = good_map-table sectors good (told-given told (good_map sectors) good given) in
      message-same boot good keys memory (subst (λ table. Same image other (table_places image machine boot table)) table (map_sectors-behind image other machine boot sectors same is)))

  map_boot-same : (boot : BootSector) (keys : List Key) (memory : ℕ) → MapSame image other machine boot → map_boot other machine boot keys memory ≡ map_boot image machine boot keys memory
  unfolding map_boot
  map_boot-same boot keys memory same =
      let told = λ (fault : slots.AddressFault). refused_boot (codes "L 04\n") (present_line image machine boot) keys NotFound in
      ap (λ line. end_of (with_fault (λ fault. refused_boot (codes "L 04\n") line keys NotFound) (map_sectors other machine boot) >>= sectors_boot other boot keys memory)) (present_line-same image other machine boot same)
      ∙ ap (λ sectors. end_of (with_fault told sectors >>= sectors_boot other boot keys memory)) (map_sectors-same image other machine boot same)
      ∙ ap end_of (bind-same (with_fault told (map_sectors image machine boot)) (sectors_boot image boot keys memory) (sectors_boot other boot keys memory) (λ sectors given.
      sectors-same boot keys memory sectors same (told-given told (map_sectors image machine boot) sectors given)))

  by-same : (bytes : List ℕ) (keys : List Key) (memory : ℕ) (found : Result BootSector MapFault) → Same image other (behind_sector image machine found) → boot_by other machine bytes keys memory found ≡ boot_by image machine bytes keys memory found
  by-same bytes keys memory (Ok boot) same = map_boot-same boot keys memory (map-parts image other machine boot same)
  by-same bytes keys memory (Err (BadTable entry)) same = refl
  by-same bytes keys memory (Err NotOurs) same = refl
  by-same bytes keys memory (Err (BadVersion version)) same = refl
  by-same bytes keys memory (Err BadLine) same = refl

  whole_boot-same : (span : Span) (keys : List Key) (memory : ℕ) → Same image other (mapped_sectors image machine span) → whole_boot other machine span keys memory ≡ whole_boot image machine span keys memory
  unfolding whole_boot mapped_sectors
  whole_boot-same span keys memory same =
      ap (λ bytes. boot_by other machine bytes keys memory (boot_at bytes)) same.0
      ∙ by-same (image span.disk span.start) keys memory (boot_at (image span.disk span.start)) same.1

pub mapped_law : MappedLaw
mapped_law image other machine span keys memory same =
    whole_boot-same image other machine span keys memory (same-from_all image other (mapped_sectors image machine span) same)
