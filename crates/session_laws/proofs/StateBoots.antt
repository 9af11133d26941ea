-- Two images of one body and one line boot the same.
use Rattle.std.proofs.Common.{◌≡◌, ◌⊎◌, ℕ, Bool, true, false, List, [], ◌∷◌, ◌++◌, map, codes, Option, None, Some, option_map, Result, Ok, Err, refl, sym, ap, subst, ◌∙◌, inl, inr}
use Rattle.std.proofs.lemmas.List.Elements.{All-from_recursion}
use Rattle.std.specs.Result.{result_ok}
use Rattle.lilo_model.specs.Checks.{◌>>=◌, with_fault, each}
use Rattle.lilo_model.specs.Disks.{Image, Machine, DiskSector, bytes_at}
use Rattle.lilo_model.specs.Slots as slots
use Rattle.lilo_model.specs.Slots.{Slot, place_at}
use Rattle.lilo_model.specs.BootSector.{MapFault, BadLine, BootSector, boot_at}
use Rattle.lilo_model.specs.Table.{Descriptor, password_flag, table_at}
use Rattle.lilo_model.specs.LineSector.{is_line, line_of, line_at, is_same_line}
use Rattle.lilo_model.specs.DefaultLine.{DefaultLine}
use Rattle.lilo_model.specs.Prompt.{Key, Picked, Decision}
use Rattle.lilo_model.specs.Choice.{choice, opening}
use Rattle.lilo_model.specs.Section.{Content, file_listing}
use Rattle.lilo_model.specs.Reason.{Reason, NotFound, map_reason}
use Rattle.lilo_model.specs.Mapped.{found_places, listing_places, file_places, table_places, behind_table, mapped_sectors}
use Rattle.lilo_model.specs.Boot.{Boot, refused_boot, slot_bytes_at, optional_at, extra_slot, entries_of, MapSectors, map_sectors, present_line, GoodMap, good_map, settings_of, message_of, message_check, middle_of, image_with_line, ended_boot, entry_ending, chosen_boot, picked_entry, decided_boot, decision_at, opening_at, prompted_boot, end_of, map_boot, boot_by, whole_boot}
use Rattle.boot_laws.proofs.Boots.{mapped_law}
use Rattle.boot_laws.proofs.Same.{Same, same-front, same-back}
use Rattle.boot_laws.proofs.Checks.{bind-same, bind-given, told-given}
use Rattle.boot_laws.proofs.Written.{Cuts, line-cuts, written-same, listing-keeps}
use Rattle.boot_laws.proofs.Entries.{EntrySame, EntriesSame, middle_of-same, entry_ending-same, listed_entries-same, picked-same, extras-same}
use Rattle.boot_laws.proofs.Maps.{table_checks, message_of-same, good_map-table, table-entries}
use Rattle.session_model.specs.Keeps.{IsLineApart, others_behind}
use Rattle.session_model.specs.Site.{Site, boot_place}
use Rattle.session_model.specs.State.{line_place, line_in, body_in}
use Rattle.session_laws.specs.Bodies.{NamesLine, StateBootsLaw}
use Rattle.session_laws.proofs.Bodies.{names-line, others, line-is, same-others, same-mapped}

-- ---- from a good map on (as boot_laws' proofs: no step there looks at the line's sector)

module _ (image other : Image) (machine : Machine) where
  -- ---- the chosen entry

  file-keeps : (one two image' : Image) → Cuts image image' → (entry : Descriptor) (slot : Option slots.Slot) → Same one two (file_places (λ slot. file_listing image machine slot entry.initrd_length entry.initrd_chain) slot)
      → Same one two (file_places (λ slot. file_listing image' machine slot entry.initrd_length entry.initrd_chain) slot)
  file-keeps one two image' cuts entry None same = tt
  file-keeps one two image' cuts entry (Some slot) same = listing-keeps one two image image' cuts machine slot entry.initrd_length entry.initrd_chain same

  -- what an entry loads once the default line is written
  ending-same : (boot : BootSector) (line new : DefaultLine) (entry : Descriptor) (picked : Picked) (middle : List ℕ) (memory : ℕ) → EntrySame image other machine entry
      → entry_ending (image_with_line other machine boot line new) machine entry picked middle memory ≡ entry_ending (image_with_line image machine boot line new) machine entry picked middle memory
  unfolding image_with_line
  ending-same boot line new entry picked middle memory same =
      let image' = image_with_line image machine boot line new in
      let other' = image_with_line other machine boot line new in
      let stands = is_same_line line new in
      let place = place_at machine boot.line 0 in
      let cuts : Cuts image image' = line-cuts image new stands place in
      let main = file_listing image machine entry.first entry.main_length entry.chain in
      let initrd = file_places (λ slot. file_listing image machine slot entry.initrd_length entry.initrd_chain) entry.initrd in
      entry_ending-same image' other' machine entry picked middle memory
      (listing-keeps image' other' image image' cuts machine entry.first entry.main_length entry.chain (written-same image other new stands place (listing_places main) same.main))
      (file-keeps image' other' image' cuts entry entry.initrd (written-same image other new stands place initrd same.initrd))

  chosen-same : (boot : BootSector) (line : DefaultLine) (entry : Descriptor) (picked : Picked) (decision : Decision) (memory : ℕ) (middle : Result (List ℕ) Reason) → EntrySame image other machine entry
      → chosen_boot other machine boot line entry picked decision memory middle ≡ chosen_boot image machine boot line entry picked decision memory middle
  unfolding chosen_boot
  chosen-same boot line entry picked decision memory (Err reason) same = refl
  chosen-same boot line entry picked decision memory (Ok middle) same =
      ap (ended_boot (codes "LILO\n" ++ decision.shown ++ codes "Loading " ++ entry.name ++ codes "\n") decision.line decision.left)
      (ending-same boot line decision.line entry picked middle memory same)

  decided-same : (boot : BootSector) (line : DefaultLine) (decision : Decision) (memory : ℕ) (picked : Option (Descriptor × Picked))
      → ((entry : Descriptor) (by : Picked) → picked ≡ Some (entry, by) → EntrySame image other machine entry)
      → decided_boot other machine boot line decision memory picked ≡ decided_boot image machine boot line decision memory picked
  decided-same boot line decision memory None same = refl
  decided-same boot line decision memory (Some (entry, by)) same =
      ap (chosen_boot other machine boot line entry by decision memory) (middle_of-same image other machine entry (same entry by refl))
      ∙ chosen-same boot line entry by decision memory (middle_of image machine entry) (same entry by refl)

  -- ---- the prompt

  opening-same : (boot : BootSector) (good : GoodMap) (keys : List Key) → EntriesSame image other machine good.entries → opening_at other machine boot good keys ≡ opening_at image machine boot good keys
  unfolding opening_at
  opening-same boot good keys same = ap (λ entries. opening (settings_of boot) entries good.line keys) (listed_entries-same image other machine good same)

  decision-same : (boot : BootSector) (good : GoodMap) (message : Option Content) (keys : List Key) → EntriesSame image other machine good.entries → decision_at other machine boot good message keys ≡ decision_at image machine boot good message keys
  unfolding decision_at
  decision-same boot good message keys same =
      ap (λ entries. choice (settings_of boot) entries good.line (option_map (λ content. content.bytes) message) keys) (listed_entries-same image other machine good same)

  prompted-same : (boot : BootSector) (good : GoodMap) (message : Option Content) (keys : List Key) (memory : ℕ) → EntriesSame image other machine good.entries → prompted_boot other machine boot good message keys memory ≡ prompted_boot image machine boot good message keys memory
  unfolding prompted_boot
  prompted-same boot good message keys memory same =
      let decision = decision_at image machine boot good message keys in
      ap (λ decision. decided_boot other machine boot good.line decision memory (picked_entry good.entries decision.picked)) (decision-same boot good message keys same)
      ∙ decided-same boot good.line decision memory (picked_entry good.entries decision.picked) (λ entry by is. picked-same image other machine good.entries decision.picked entry by same is)

  -- ---- the map

  -- the boot from a good map on, its message among it
  abbrev message_boot : Image → BootSector → GoodMap → List Key → ℕ → Result Boot Boot
  message_boot image boot good keys memory =
      message_check good.line (opening_at image machine boot good keys) (message_of image machine boot) >>= λ a.
      Ok (prompted_boot image machine boot good (message_of image machine boot) keys memory)

  message-same : (boot : BootSector) (good : GoodMap) (keys : List Key) (memory : ℕ) → Same image other (table_places image machine boot (Ok good.entries)) → message_boot other boot good keys memory ≡ message_boot image boot good keys memory
  message-same boot good keys memory same =
      let entries : EntriesSame image other machine good.entries = table-entries image other machine boot (Ok good.entries) same in
      let message = message_of image machine boot in
      rw (opening-same boot good keys entries, message_of-same image other machine boot good.entries same, prompted-same boot good message keys memory entries) refl

-- ---- what is read before the prompt

-- where a table's sectors were read, they are those at its places
record AtPlaces (image : Image) (machine : Machine) (table : List Slot) (sectors : List (List ℕ)) : Type 0 where
  places : List DiskSector
  found : each (table_checks machine table) ≡ Ok places
  bytes : map (bytes_at image) places ≡ sectors

abbrev Reads : Image → Machine → List Slot → List (List ℕ) → Type 0
Reads image machine table sectors = each (map (slot_bytes_at image machine) table) ≡ Ok sectors

each-by : (image : Image) (machine : Machine) (slot : Slot) (table : List Slot) (sectors : List (List ℕ)) → ((sectors : List (List ℕ)) → Reads image machine table sectors → AtPlaces image machine table sectors)
    → (found : Result DiskSector slots.AddressFault) → place_at machine slot 0 ≡ found → Reads image machine (slot ∷ table) sectors → AtPlaces image machine (slot ∷ table) sectors
unfolding slot_bytes_at
each-by image machine slot table sectors more (Err fault) there is =
    let never : ◌≡◌ {A = Result (List (List ℕ)) slots.AddressFault} (Err fault) (Ok sectors) = rw there at is in
    absurd (cc)
each-by image machine slot table sectors more (Ok place) there is =
    let reads : (each (map (slot_bytes_at image machine) table) >>= λ others. Ok (bytes_at image place ∷ others)) ≡ Ok sectors = rw there at is in
    let rest = bind-given (each (map (slot_bytes_at image machine) table)) (λ others. Ok (bytes_at image place ∷ others)) sectors reads in
    let tail = more rest.0 rest.1 in
    let whole : bytes_at image place ∷ rest.0 ≡ sectors = cc in
    record {
      places = place ∷ tail.places;
      found = rw (there, tail.found) refl;
      bytes = ap (λ sectors. bytes_at image place ∷ sectors) tail.bytes ∙ whole;
    }

each-places : (image : Image) (machine : Machine) (table : List Slot) (sectors : List (List ℕ)) → Reads image machine table sectors → AtPlaces image machine table sectors
each-places image machine [] sectors is =
    let none : [] ≡ sectors = cc in
    record { places = []; found = refl; bytes = none }
each-places image machine (slot ∷ table) sectors is = each-by image machine slot table sectors (each-places image machine table) (place_at machine slot 0) refl is

-- the same sectors of two images, but for the line's
data SameReads (image other : Image) (machine : Machine) (boot : BootSector) (place : DiskSector) : Type 0 where
  Refuse : (fault : slots.AddressFault) → map_sectors image machine boot ≡ Err fault → map_sectors other machine boot ≡ Err fault → SameReads image other machine boot place
  Read : (table : Result (List Descriptor) MapFault) (extras : List (Option (List ℕ)))
      → map_sectors image machine boot ≡ Ok (record { line = bytes_at image place; table = table; extras = extras })
      → map_sectors other machine boot ≡ Ok (record { line = bytes_at other place; table = table; extras = extras })
      → Same image other (table_places image machine boot table) → SameReads image other machine boot place

module _ (image other : Image) (machine : Machine) (boot : BootSector) (place : DiskSector) (named : place_at machine boot.line 0 ≡ Ok place)
    (table : Same image other (found_places (table_checks machine boot.table))) (behind : Same image other (behind_table image machine boot (each (table_checks machine boot.table))))
    (line : line_at (bytes_at other place) ≡ line_at (bytes_at image place)) where
  same-by : (slot : Slot) (more : List Slot) → (Same image other (found_places (table_checks machine more)) → each (map (slot_bytes_at other machine) more) ≡ each (map (slot_bytes_at image machine) more))
      → (found : Result DiskSector slots.AddressFault) → place_at machine slot 0 ≡ found → Same image other (found_places (found ∷ table_checks machine more))
      → each (map (slot_bytes_at other machine) (slot ∷ more)) ≡ each (map (slot_bytes_at image machine) (slot ∷ more))
  unfolding slot_bytes_at
  same-by slot more rest (Err fault) at same = rw at refl
  same-by slot more rest (Ok there) at same = rw (at, same.0, rest same.1) refl

  each-same : (more : List Slot) → Same image other (found_places (table_checks machine more)) → each (map (slot_bytes_at other machine) more) ≡ each (map (slot_bytes_at image machine) more)
  each-same [] same = refl
  each-same (slot ∷ more) same = same-by slot more (each-same more) (place_at machine slot 0) refl same

  abbrev extras_of : Image → List (List ℕ) → Result (List (Option (List ℕ))) slots.AddressFault
  extras_of image sectors = each (map (λ entry. optional_at image machine (extra_slot password_flag entry)) (entries_of (table_at boot.names sectors)))

  abbrev sectors_with : Image → List (List ℕ) → Result MapSectors slots.AddressFault
  sectors_with image sectors = extras_of image sectors >>= λ extras. Ok (record { line = bytes_at image place; table = table_at boot.names sectors; extras = extras })

  abbrev sectors_by : Image → Result (List (List ℕ)) slots.AddressFault → Result MapSectors slots.AddressFault
  sectors_by image found = found >>= λ sectors. sectors_with image sectors

  reads-image : map_sectors image machine boot ≡ sectors_by image (each (map (slot_bytes_at image machine) boot.table))
  unfolding map_sectors slot_bytes_at
  reads-image = rw named refl

  reads-other : map_sectors other machine boot ≡ sectors_by other (each (map (slot_bytes_at image machine) boot.table))
  unfolding map_sectors slot_bytes_at
  reads-other = rw named (ap (sectors_by other) (each-same boot.table table))

  same-reads : SameReads image other machine boot place
  same-reads = by (each (map (slot_bytes_at image machine) boot.table)) refl
    where
      by : (found : Result (List (List ℕ)) slots.AddressFault) → each (map (slot_bytes_at image machine) boot.table) ≡ found → SameReads image other machine boot place
      by (Err fault) is = Refuse fault (reads-image ∙ ap (sectors_by image) is) (reads-other ∙ ap (sectors_by other) is)
      by (Ok sectors) is =
          let found = each-places image machine boot.table sectors is in
          let at-places : Same image other (table_places image machine boot (table_at boot.names (map (bytes_at image) found.places))) =
          subst (λ tried. Same image other (behind_table image machine boot tried)) found.found behind in
          let leads : Same image other (table_places image machine boot (table_at boot.names sectors)) =
          subst (λ sectors. Same image other (table_places image machine boot (table_at boot.names sectors))) found.bytes at-places in
          let entries : EntriesSame image other machine (entries_of (table_at boot.names sectors)) = table-entries image other machine boot (table_at boot.names sectors) leads in
          let extras : extras_of other sectors ≡ extras_of image sectors = ap each (extras-same image other machine password_flag (entries_of (table_at boot.names sectors)) entries) in
          with (extras_of image sectors) refl extras leads
        where
          with : (found : Result (List (Option (List ℕ))) slots.AddressFault) → extras_of image sectors ≡ found → extras_of other sectors ≡ extras_of image sectors
              → Same image other (table_places image machine boot (table_at boot.names sectors)) → SameReads image other machine boot place
          with (Err fault) here same leads =
              Refuse fault (reads-image ∙ ap (sectors_by image) is ∙ rw here refl) (reads-other ∙ ap (sectors_by other) is ∙ rw (same, here) refl)
          with (Ok extras) here same leads =
              Read (table_at boot.names sectors) extras (reads-image ∙ ap (sectors_by image) is ∙ rw here refl) (reads-other ∙ ap (sectors_by other) is ∙ rw (same, here) refl) leads

  -- ---- the boot

  present-same : present_line other machine boot ≡ present_line image machine boot
  unfolding present_line slot_bytes_at
  present-same = rw (named, line) refl

  good-same : (table : Result (List Descriptor) MapFault) (extras : List (Option (List ℕ)))
      → good_map (record { line = bytes_at other place; table = table; extras = extras }) ≡ good_map (record { line = bytes_at image place; table = table; extras = extras })
  unfolding good_map
  good-same table extras = rw line refl

  pub boot-same : (keys : List Key) (memory : ℕ) → map_boot other machine boot keys memory ≡ map_boot image machine boot keys memory
  unfolding map_boot
  boot-same keys memory = rw present-same (by same-reads)
    where
      absent : slots.AddressFault → Boot
      absent fault = refused_boot (codes "L 04\n") (present_line image machine boot) keys NotFound

      bad : MapFault → Boot
      bad fault = refused_boot (codes "LIL-\n") (present_line image machine boot) keys (map_reason fault)

      boots : Image → MapSectors → Result Boot Boot
      boots image sectors = with_fault bad (good_map sectors) >>= λ good. message_boot image other machine image boot good keys memory

      by : SameReads image other machine boot place
          → end_of (with_fault absent (map_sectors other machine boot) >>= boots other) ≡ end_of (with_fault absent (map_sectors image machine boot) >>= boots image)
      by (Refuse fault one two) = rw (one, two) refl
      by (Read table extras one two leads) =
          let sectors : MapSectors = record { line = bytes_at image place; table = table; extras = extras } in
          rw (one, two, good-same table extras)
          (ap end_of
          (bind-same (with_fault bad (good_map sectors)) (λ good. message_boot image other machine image boot good keys memory) (λ good. message_boot image other machine other boot good keys memory)
          (λ good given.
          let is : table ≡ Ok good.entries = good_map-table sectors good (told-given bad (good_map sectors) good given) in
          message-same image other machine boot good keys memory (subst (λ table. Same image other (table_places image machine boot table)) is leads))))

-- ---- the law

-- a sector says the same line where it says one, since there is one reason alone why it says none
line-by : (bytes : List ℕ) (test : Bool) → is_line bytes ≡ test → (line_at bytes ≡ Ok (line_of bytes)) ⊎ (line_at bytes ≡ Err BadLine)
unfolding line_at
line-by bytes true is = inl (rw is refl)
line-by bytes false is = inr (rw is refl)

same-line : (one other : List ℕ) → result_ok (line_at one) ≡ result_ok (line_at other) → line_at one ≡ line_at other
same-line one other same = by (line-by one (is_line one) refl) (line-by other (is_line other) refl)
  where
    by : (line_at one ≡ Ok (line_of one)) ⊎ (line_at one ≡ Err BadLine) → (line_at other ≡ Ok (line_of other)) ⊎ (line_at other ≡ Err BadLine) → line_at one ≡ line_at other
    by (inl is) (inl are) = let lines : ◌≡◌ {A = Option DefaultLine} (Some (line_of one)) (Some (line_of other)) = sym (ap result_ok is) ∙ same ∙ ap result_ok are in cc
    by (inl is) (inr are) = let never : ◌≡◌ {A = Option DefaultLine} (Some (line_of one)) None = sym (ap result_ok is) ∙ same ∙ ap result_ok are in absurd cc
    by (inr is) (inl are) = let never : ◌≡◌ {A = Option DefaultLine} None (Some (line_of other)) = sym (ap result_ok is) ∙ same ∙ ap result_ok are in absurd cc
    by (inr is) (inr are) = is ∙ sym are

module _ (site : Site) (image other : Image) (apart : IsLineApart site image) (body : body_in site other ≡ body_in site image) (line : line_in site other ≡ line_in site image) where
  line-there : (place : DiskSector) (names : NamesLine site image place) → boot_at (other site.boot.disk site.boot.start) ≡ Ok names.boot → line_in site other ≡ result_ok (line_at (bytes_at other place))
  unfolding line_in present_line slot_bytes_at
  line-there place names says = rw (says, names.named) refl

  named-boots : (place : DiskSector) → line_place site image ≡ Some place → (keys : List Key) (memory : ℕ)
      → whole_boot other site.machine site.boot keys memory ≡ whole_boot image site.machine site.boot keys memory
  unfolding whole_boot others_behind
  named-boots place is keys memory =
      let names : NamesLine site image place = names-line site image place apart is in
      let same : Same image other (boot_place site ∷ others site image place names) = same-others site image place names other body in
      let says : boot_at (other site.boot.disk site.boot.start) ≡ Ok names.boot = ap boot_at same.0 ∙ names.says in
      let table = found_places (table_checks site.machine names.boot.table) in
      let behind = behind_table image site.machine names.boot (each (table_checks site.machine names.boot.table)) in
      let lines : line_at (bytes_at other place) ≡ line_at (bytes_at image place) = same-line (bytes_at other place) (bytes_at image place) (sym (line-there place names says) ∙ line ∙ line-is site image place names) in
      ap (boot_by other site.machine (other site.boot.disk site.boot.start) keys memory) says
      ∙ boot-same image other site.machine names.boot place names.named (same-front image other table behind same.1) (same-back image other table behind same.1) lines keys memory
      ∙ sym (ap (boot_by image site.machine (image site.boot.disk site.boot.start) keys memory) names.says)

  boots : (keys : List Key) (memory : ℕ) → whole_boot other site.machine site.boot keys memory ≡ whole_boot image site.machine site.boot keys memory
  boots keys memory = by (line_place site image) refl
    where
      by : (found : Option DiskSector) → line_place site image ≡ found → whole_boot other site.machine site.boot keys memory ≡ whole_boot image site.machine site.boot keys memory
      by None is =
          mapped_law image other site.machine site.boot keys memory
          (All-from_recursion (λ (place : DiskSector). bytes_at other place ≡ bytes_at image place) (mapped_sectors image site.machine site.boot) (same-mapped site image is other body))
      by (Some place) is = named-boots place is keys memory

pub state_boots_law : StateBootsLaw
state_boots_law site image other apart body line keys memory = boots site image other apart body line keys memory
