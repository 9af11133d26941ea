-- A planned map that lies at its places boots as its menu says.
use Rattle.std.proofs.Common.{◌≡◌, ◌≤◌, ℕ, ◌+◌, List, [], ◌∷◌, ◌++◌, map, length, drop, replicate, Option, None, Some, Ok, refl, sym, ap, subst, ◌∙◌, arith, append_assoc, length-take-le, length-drop}
use Rattle.std.specs.Prelude.{unwrap_or, option_map, IfSome, zip, flat_map}
use Rattle.lilo_model.specs.Checks.{each}
use Rattle.lilo_model.specs.Disks.{Image, Machine, Span, DiskSector, bytes_at}
use Rattle.lilo_model.specs.Slots.{Slot}
use Rattle.lilo_model.specs.Table.{Descriptor, table_at}
use Rattle.lilo_model.specs.Bytes.{part_of, filled_bytes}
use Rattle.lilo_model.specs.BootSector.{BootSector, boot_at}
use Rattle.lilo_model.specs.Section.{file_content}
use Rattle.lilo_model.specs.Boot.{MapSectors, GoodMap, map_sectors, good_map, settings_of, listed_entries, message_of, optional_at, extra_slot, listed_entry, password_at}
use Rattle.lilo_model.specs.Table.{password_flag}
use Rattle.lilo_model.specs.Conf.{Config}
use Rattle.std.proofs.lemmas.List.{map-append, length-map}
use Rattle.lilo_model.specs.DefaultLine.{DefaultLine}
use Rattle.lilo_model.specs.Meant.{Target, Menu, MenuEntry, menu_entry}
use Rattle.lilo_model.specs.ConfLawful.{names_of_section}
use Rattle.lilo_model.specs.Plan.{MappedFile, MappedSection, Plan, slot_to, places_after, section_sectors_at, sections_sectors, sections_entries, descriptor_for, extra_sectors, main_places, initrd_places, file_sectors, optional_sectors, chain_for, optional_chain, sectors_of_table, plan_entries, plan_sectors, sectors_after, sections_places, plan_names, plan_boot, plan_boot_sector, place_of_sector}
use Rattle.map_laws.specs.Shows.{whole, ShowsEntries, Shows}
use Rattle.map_laws.specs.Lies.{MapPlaces, after_line, all_places, AreNamed, IsNone, OptionalLies, IsFitSection, IsOtherName, AreNames, TargetLies, TargetsLie, entries_for, MapLies, MapLaw}
use Rattle.lilo_model.specs.Lays.{AreAt}
use Rattle.map_again_laws.proofs.TableAgain as table
use Rattle.map_again_laws.specs.Fits as fits
use Rattle.map_again_laws.specs.Fits.{FitEntries, HaveNames, FitsMessage, FitsBoot}
use Rattle.map_laws.proofs.Entries.{lie-prefix, lie-suffix, named-drop, none-drop, length-file, length-optional, EntryShown, section-read, slot-read}
use Rattle.map_again_laws.proofs.Parts.{length-filled}
use Rattle.map_again_laws.proofs.BootAgain.{boot_again}
use Rattle.map_laws.proofs.Kept.{code-again, kept-again}
use Rattle.map_laws.proofs.Files.{file-shown, chain-is, slots-between}
use Rattle.map_laws.proofs.Shown.{shows_law}
use Rattle.map_laws.proofs.EntryFits.{chain-some, first-one, entry-bytes-fit}

-- entries of the map, each read as one of the menu
abbrev pub AllShown : Image → Machine → DiskSector → List Descriptor → List MenuEntry → Type 0
AllShown image machine line_place [] [] = Unit {0}
AllShown image machine line_place [] (meant ∷ menu) = ⊥
AllShown image machine line_place (entry ∷ entries) [] = ⊥
AllShown image machine line_place (entry ∷ entries) (meant ∷ menu) = EntryShown image machine line_place entry meant × AllShown image machine line_place entries menu

module _ (image : Image) (machine : Machine) (line_place : DiskSector) where
  shown-join : (entries : List Descriptor) (menu : List MenuEntry) (entries' : List Descriptor) (menu' : List MenuEntry) → AllShown image machine line_place entries menu → AllShown image machine line_place entries' menu' → AllShown image machine line_place (entries ++ entries') (menu ++ menu')
  shown-join [] [] entries' menu' shown shown' = shown'
  shown-join [] (meant ∷ menu) entries' menu' shown shown' = absurd shown
  shown-join (entry ∷ entries) [] entries' menu' shown shown' = absurd shown
  shown-join (entry ∷ entries) (meant ∷ menu) entries' menu' shown shown' = (shown.0, shown-join entries menu entries' menu' shown.1 shown')

  shown-entries : (entries : List Descriptor) (menu : List MenuEntry) → AllShown image machine line_place entries menu → ShowsEntries image machine line_place entries menu
  shown-entries [] [] shown = tt
  shown-entries [] (meant ∷ menu) shown = absurd shown
  shown-entries (entry ∷ entries) [] shown = absurd shown
  shown-entries (entry ∷ entries) (meant ∷ menu) shown = (shown.0.shows, shown-entries entries menu shown.1)

  -- the extra sectors that are read
  extras-of : (entries : List Descriptor) (menu : List MenuEntry) → AllShown image machine line_place entries menu → List (Option (List ℕ))
  extras-of [] [] shown = []
  extras-of [] (meant ∷ menu) shown = []
  extras-of (entry ∷ entries) [] shown = []
  extras-of (entry ∷ entries) (meant ∷ menu) shown = shown.0.extra ∷ extras-of entries menu shown.1

  extras-read : (entries : List Descriptor) (menu : List MenuEntry) (shown : AllShown image machine line_place entries menu) → each (map (λ entry. optional_at image machine (extra_slot password_flag entry)) entries) ≡ Ok (extras-of entries menu shown)
  unfolding extras-of
  extras-read [] [] shown = refl
  extras-read [] (meant ∷ menu) shown = absurd shown
  extras-read (entry ∷ entries) [] shown = absurd shown
  extras-read (entry ∷ entries) (meant ∷ menu) shown = rw (shown.0.extra_is, extras-read entries menu shown.1) refl

  abbrev passwords_of : List MenuEntry → List (Option (List ℕ))
  passwords_of menu = map (λ meant. meant.listed.password) menu

  passwords-read : (entries : List Descriptor) (menu : List MenuEntry) (shown : AllShown image machine line_place entries menu) → each (map password_at (extras-of entries menu shown)) ≡ Ok (passwords_of menu)
  unfolding extras-of
  passwords-read [] [] shown = refl
  passwords-read [] (meant ∷ menu) shown = absurd shown
  passwords-read (entry ∷ entries) [] shown = absurd shown
  passwords-read (entry ∷ entries) (meant ∷ menu) shown = rw (shown.0.password, passwords-read entries menu shown.1) refl

  listed-all : (entries : List Descriptor) (menu : List MenuEntry) → AllShown image machine line_place entries menu → map (listed_entry image machine) (zip entries (passwords_of menu)) ≡ map (λ meant. meant.listed) menu
  listed-all [] [] shown = refl
  listed-all [] (meant ∷ menu) shown = absurd shown
  listed-all (entry ∷ entries) [] shown = absurd shown
  listed-all (entry ∷ entries) (meant ∷ menu) shown = ap (λ first. first ∷ map (listed_entry image machine) (zip entries (passwords_of menu))) shown.0.listed ∙ ap (λ others. meant.listed ∷ others) (listed-all entries menu shown.1)

-- ---- the sections

module _ (image : Image) (machine : Machine) (config : Config) (line_place zero_place : DiskSector) where
  abbrev to : DiskSector → Slot
  to = slot_to config.mode machine

  one-section : (mapped : MappedSection) (target : Target) (own : List DiskSector) (names : List (List ℕ)) → IsFitSection mapped.section → TargetLies image machine config line_place zero_place mapped target
      → AreNamed machine to own → IsNone line_place own → AreAt image own (section_sectors_at config machine zero_place mapped own)
      → AllShown image machine line_place (map (descriptor_for config machine mapped own) names) (map (menu_entry mapped.section target) names)
  one-section mapped target own [] lawful lies named none lie = tt
  one-section mapped target own (name ∷ names) lawful lies named none lie =
      (section-read image machine config line_place zero_place mapped target own name lawful lies named none lie, one-section mapped target own names lawful lies named none lie)

  one-fits : (mapped : MappedSection) (target : Target) (own : List DiskSector) (names others : List (List ℕ)) → IsFitSection mapped.section → TargetLies image machine config line_place zero_place mapped target → AreNames (names ++ others)
      → AreNamed machine to own → AreAt image own (section_sectors_at config machine zero_place mapped own) → (entries : List Descriptor) → (AreNames others → FitEntries entries)
      → FitEntries (map (descriptor_for config machine mapped own) names ++ entries)
  one-fits mapped target own [] others lawful lies are named lie entries fit = fit are
  one-fits mapped target own (name ∷ names) others lawful lies are named lie entries fit =
      (entry-bytes-fit image machine config line_place zero_place mapped target own name lawful lies are.0 named lie, one-fits mapped target own names others lawful lies are.2 named lie entries fit)

  -- the sectors of the sections after one lie after it
  pub section-after : (mapped : MappedSection) (own : List DiskSector) (others : List (List ℕ)) → AreAt image own (section_sectors_at config machine zero_place mapped own ++ others) → AreAt image (places_after config machine mapped own) others
  unfolding section_sectors_at
  section-after mapped [] others lie = absurd lie
  section-after mapped (first ∷ own) others lie =
      let all = first ∷ own in
      let extras = extra_sectors mapped.section in
      let main = main_places mapped.section all in
      let ramdisk = initrd_places config machine mapped all in
      let mains = file_sectors config machine zero_place mapped.main main in
      let ramdisks = optional_sectors config machine zero_place mapped.initrd ramdisk in
      let regrouped : (extras ++ (mains ++ ramdisks)) ++ others ≡ extras ++ (mains ++ (ramdisks ++ others)) = append_assoc extras (mains ++ ramdisks) others ∙ ap (λ suffix. extras ++ suffix) (append_assoc mains ramdisks others) in
      let lie' = subst (AreAt image own) regrouped lie.1 in
      let after = lie-suffix image own extras (mains ++ (ramdisks ++ others)) lie' in
      let after' = subst (λ n. AreAt image (drop n main) (ramdisks ++ others)) (length-file config machine zero_place mapped.main main) (lie-suffix image main mains (ramdisks ++ others) after) in
      subst (λ n. AreAt image (drop n ramdisk) others) (length-optional config machine zero_place mapped.initrd ramdisk) (lie-suffix image ramdisk ramdisks others after')

  pub named-after : (mapped : MappedSection) (own : List DiskSector) → AreNamed machine to own → AreNamed machine to (places_after config machine mapped own)
  named-after mapped own named = named-drop machine to (optional_chain config machine mapped.initrd) (initrd_places config machine mapped own) (named-drop machine to (chain_for config machine mapped.main) (main_places mapped.section own) (named-drop machine to (length (extra_sectors mapped.section)) (drop 1 own) (named-drop machine to 1 own named)))

  none-after : (mapped : MappedSection) (own : List DiskSector) → IsNone line_place own → IsNone line_place (places_after config machine mapped own)
  none-after mapped own none = none-drop line_place (optional_chain config machine mapped.initrd) (initrd_places config machine mapped own) (none-drop line_place (chain_for config machine mapped.main) (main_places mapped.section own) (none-drop line_place (length (extra_sectors mapped.section)) (drop 1 own) (none-drop line_place 1 own none)))

  pub sections-shown : (sections : List MappedSection) (targets : List Target) (own : List DiskSector) → TargetsLie image machine config line_place zero_place sections targets
      → AreNamed machine to own → IsNone line_place own → AreAt image own (sections_sectors config machine zero_place sections own)
      → AllShown image machine line_place (sections_entries config machine sections own) (entries_for sections targets)
  sections-shown [] [] own lies named none lie = tt
  sections-shown [] (target ∷ targets) own lies named none lie = absurd lies
  sections-shown (mapped ∷ sections) [] own lies named none lie = absurd lies
  sections-shown (mapped ∷ sections) (target ∷ targets) own lies named none lie =
      let after = places_after config machine mapped own in
      let others = sections_sectors config machine zero_place sections after in
      shown-join image machine line_place (map (descriptor_for config machine mapped own) (names_of_section mapped.section)) (map (menu_entry mapped.section target) (names_of_section mapped.section)) (sections_entries config machine sections after) (entries_for sections targets)
      (one-section mapped target own (names_of_section mapped.section) lies.0 lies.1 named none (lie-prefix image own (section_sectors_at config machine zero_place mapped own) others lie))
      (sections-shown sections targets after lies.2 (named-after mapped own named) (none-after mapped own none) (section-after mapped own others lie))

  pub sections-fit : (sections : List MappedSection) (targets : List Target) (own : List DiskSector) → TargetsLie image machine config line_place zero_place sections targets → AreNames (flat_map (λ (mapped : MappedSection). names_of_section mapped.section) sections)
      → AreNamed machine to own → AreAt image own (sections_sectors config machine zero_place sections own)
      → FitEntries (sections_entries config machine sections own)
  sections-fit [] [] own lies are named lie = tt
  sections-fit [] (target ∷ targets) own lies are named lie = absurd lies
  sections-fit (mapped ∷ sections) [] own lies are named lie = absurd lies
  sections-fit (mapped ∷ sections) (target ∷ targets) own lies are named lie =
      let after = places_after config machine mapped own in
      let others = sections_sectors config machine zero_place sections after in
      one-fits mapped target own (names_of_section mapped.section) (flat_map (λ (mapped : MappedSection). names_of_section mapped.section) sections) lies.0 lies.1 are named (lie-prefix image own (section_sectors_at config machine zero_place mapped own) others lie) (sections_entries config machine sections after)
      (λ are'. sections-fit sections targets after lies.2 are' (named-after mapped own named) (section-after mapped own others lie))

-- ---- names

other-names : (name : List ℕ) (entries : List Descriptor) → IsOtherName name (map (λ (entry : Descriptor). entry.name) entries) → fits.IsOtherName name entries
other-names name [] other = tt
other-names name (entry ∷ entries) other = (other.0, other-names name entries other.1)

have-names : (entries : List Descriptor) → AreNames (map (λ (entry : Descriptor). entry.name) entries) → HaveNames entries
have-names [] are = tt
have-names (entry ∷ entries) are = (other-names entry.name entries are.1, have-names entries are.2)

names-of-section : (config : Config) (machine : Machine) (mapped : MappedSection) (own : List DiskSector) (names : List (List ℕ)) → map (λ (entry : Descriptor). entry.name) (map (descriptor_for config machine mapped own) names) ≡ names
unfolding descriptor_for
names-of-section config machine mapped own [] = refl
names-of-section config machine mapped own (name ∷ names) = ap (λ names. name ∷ names) (names-of-section config machine mapped own names)

pub names-of-entries : (config : Config) (machine : Machine) (sections : List MappedSection) (own : List DiskSector) → map (λ (entry : Descriptor). entry.name) (sections_entries config machine sections own) ≡ flat_map (λ (mapped : MappedSection). names_of_section mapped.section) sections
names-of-entries config machine [] own = refl
names-of-entries config machine (mapped ∷ sections) own =
    let after = places_after config machine mapped own in
    map-append (λ (entry : Descriptor). entry.name) (map (descriptor_for config machine mapped own) (names_of_section mapped.section)) (sections_entries config machine sections after)
    ∙ ap (λ names. names ++ map (λ (entry : Descriptor). entry.name) (sections_entries config machine sections after)) (names-of-section config machine mapped own (names_of_section mapped.section))
    ∙ ap (λ names. names_of_section mapped.section ++ names) (names-of-entries config machine sections after)

-- ---- the whole map

module _ (image : Image) (machine : Machine) (span : Span) (plan : Plan) (menu : Menu) (targets : List Target) (line : DefaultLine) (places : MapPlaces) (present : List ℕ)
    (s : MapLies image machine span plan menu targets line places present) where
  abbrev config : Config
  config = plan.config

  abbrev goes : DiskSector → Slot
  goes = slot_to plan.config.mode machine

  abbrev pub after : List DiskSector
  after = sections_places plan machine (all_places places)

  abbrev pub entries : List Descriptor
  entries = sections_entries config machine plan.sections after

  abbrev message_sectors : List (List ℕ)
  message_sectors = optional_sectors config machine places.zero_place plan.message places.rest

  abbrev other_sectors : List (List ℕ)
  other_sectors = sections_sectors config machine places.zero_place plan.sections after

  all-lie : AreAt image (after_line places) (sectors_of_table entries ++ (replicate 512 0 ∷ (message_sectors ++ other_sectors)))
  unfolding plan_sectors plan_entries sectors_after
  all-lie = s.lies

  pub table-lies : (bytes_at image places.one ∷ (bytes_at image places.two ∷ (bytes_at image places.three ∷ []))) ≡ sectors_of_table entries
  unfolding sectors_of_table
  table-lies = rw (all-lie.0, all-lie.1.0, all-lie.1.1.0) refl

  pub zeros-lie : bytes_at image places.zero_place ≡ replicate 512 0
  unfolding sectors_of_table
  zeros-lie = all-lie.1.1.1.0

  rest-lie : AreAt image places.rest (message_sectors ++ other_sectors)
  unfolding sectors_of_table
  rest-lie = all-lie.1.1.1.1

  pub message-lie : AreAt image places.rest message_sectors
  message-lie = lie-prefix image places.rest message_sectors other_sectors rest-lie

  pub sections-lie : AreAt image after other_sectors
  sections-lie = subst (λ n. AreAt image (drop n places.rest) other_sectors) (length-optional config machine places.zero_place plan.message places.rest) (lie-suffix image places.rest message_sectors other_sectors rest-lie)

  rest-named : AreNamed machine goes places.rest
  rest-named = s.named.1.1.1.1.1

  rest-none : IsNone places.line places.rest
  rest-none = s.apart.1.1.1.1

  pub after-named : AreNamed machine goes after
  after-named = named-drop machine goes (optional_chain config machine plan.message) places.rest rest-named

  after-none : IsNone places.line after
  after-none = none-drop places.line (optional_chain config machine plan.message) places.rest rest-none

  shown : AllShown image machine places.line entries (entries_for plan.sections targets)
  shown = sections-shown image machine config places.line places.zero_place plan.sections targets after s.targets_lie after-named after-none sections-lie

  names-are : map (λ (entry : Descriptor). entry.name) entries ≡ plan_names plan
  unfolding plan_names
  names-are = names-of-entries config machine plan.sections after

  count-is : length entries ≡ length (plan_names plan)
  count-is = sym (length-map entries (λ (entry : Descriptor). entry.name)) ∙ ap length names-are

  fit : FitEntries entries
  unfolding plan_names
  fit = sections-fit image machine config places.line places.zero_place plan.sections targets after s.targets_lie s.names after-named sections-lie

  pub table-read : table_at (length (plan_names plan)) (sectors_of_table entries) ≡ Ok entries
  table-read =
      subst (λ n. table_at n (sectors_of_table entries) ≡ Ok entries) count-is
      (table.table_again entries fit (have-names entries (subst AreNames (sym names-are) s.names)) (let few = s.few_names in let count = count-is in omega (arith, few, count)))

  -- ---- the boot sector

  abbrev said : BootSector
  said = plan_boot plan machine (all_places places)

  message-fits : (file : Option MappedFile) (bytes : Option (List ℕ)) → OptionalLies image machine config places.line places.zero_place file bytes → IfSome bytes (λ bytes. length bytes ≤ 65535) → AreAt image places.rest (optional_sectors config machine places.zero_place file places.rest)
      → FitsMessage (option_map (λ (file : MappedFile). goes (place_of_sector places.rest 0)) file) (unwrap_or (option_map (λ (file : MappedFile). file.size) file) 0) (optional_chain config machine file)
  message-fits None bytes lies few lie = (refl, refl)
  message-fits (Some file) None lies few lie = absurd lies
  message-fits (Some file) (Some bytes) lies few lie =
      let size = lies.size in
      let some = lies.some in
      let count = lies.count in
      let chain = chain-is image machine config places.line places.zero_place file in
      let most = (slots-between machine config file (omega (arith, count, some))).1 in
      (first-one image machine config places.line places.zero_place file bytes places.rest lies rest-named lie, omega (arith, size, some), omega (arith, size, few), chain-some image machine config places.line places.zero_place file bytes lies, omega (arith, chain, count, few, most))

  boot-fits : FitsBoot said
  unfolding plan_boot
  boot-fits = record {
    version = refl;
    time = s.time;
    delay = s.delay;
    timeout = s.timeout;
    some_name = s.some_name;
    few_names = s.few_names;
    default = s.default;
    line = s.named.0.one;
    zero_one = s.named.1.1.1.1.0.one;
    message = message-fits plan.message menu.message s.message s.message_few message-lie;
    one = goes places.one;
    two = goes places.two;
    three = goes places.three;
    table = refl;
    first = s.named.1.0.one;
    second = s.named.1.1.0.one;
    third = s.named.1.1.1.0.one;
  }

  code-full : length (part_of (filled_bytes 512 plan.code) 128 312) ≡ 312
  code-full = length-part (filled_bytes 512 plan.code) 128 312 (let long = length-filled 512 plan.code s.code_long in omega (arith, long))
    where
      length-part : (bytes : List ℕ) (at len : ℕ) → at + len ≤ length bytes → length (part_of bytes at len) ≡ len
      length-part bytes at len fits = length-take-le len (drop at bytes) (rw (length-drop at bytes) (omega (arith, fits)))

  pub boot-read : boot_at (image span.disk span.start) ≡ Ok said
  unfolding plan_boot_sector
  boot-read = ap boot_at s.boot ∙ boot_again said (filled_bytes 512 plan.code) present boot-fits code-full s.present_long

  -- the code, and what stays of the sector that was there
  pub code-read : part_of (image span.disk span.start) 128 312 ≡ part_of (filled_bytes 512 plan.code) 128 312
  unfolding plan_boot_sector
  code-read = ap (λ bytes. part_of bytes 128 312) s.boot ∙ code-again said (filled_bytes 512 plan.code) present boot-fits code-full s.present_long

  pub kept-read : part_of (image span.disk span.start) 440 70 ≡ part_of present 440 70
  unfolding plan_boot_sector
  kept-read = ap (λ bytes. part_of bytes 440 70) s.boot ∙ kept-again said (filled_bytes 512 plan.code) present boot-fits code-full s.present_long

  -- ---- what is read before the prompt

  read-sectors : MapSectors
  read-sectors = record { line = bytes_at image places.line; table = Ok entries; extras = extras-of image machine places.line entries (entries_for plan.sections targets) shown }

  sectors-read : map_sectors image machine said ≡ Ok read-sectors
  unfolding map_sectors plan_boot read-sectors
  sectors-read =
      rw (slot-read image machine goes places.line (bytes_at image places.line) s.named.0 refl, slot-read image machine goes places.one (bytes_at image places.one) s.named.1.0 refl, slot-read image machine goes places.two (bytes_at image places.two) s.named.1.1.0 refl, slot-read image machine goes places.three (bytes_at image places.three) s.named.1.1.1.0 refl, table-lies, table-read, extras-read image machine places.line entries (entries_for plan.sections targets) shown) refl

  read-map : GoodMap
  read-map = record { line = line; entries = entries; passwords = passwords_of image machine places.line (entries_for plan.sections targets) }

  map-good : good_map read-sectors ≡ Ok read-map
  unfolding good_map read-sectors read-map
  map-good = rw (s.line_is, passwords-read image machine places.line entries (entries_for plan.sections targets) shown) refl

  listed-read : listed_entries image machine read-map ≡ map (λ meant. meant.listed) menu.entries
  unfolding listed_entries read-map
  listed-read = listed-all image machine places.line entries (entries_for plan.sections targets) shown ∙ ap (map (λ (meant : MenuEntry). meant.listed)) (sym s.entries)

  message-read : message_of image machine said ≡ option_map whole menu.message
  unfolding message_of plan_boot
  message-read = by-message plan.message menu.message s.message message-lie
    where
      by-message : (file : Option MappedFile) (bytes : Option (List ℕ)) → OptionalLies image machine config places.line places.zero_place file bytes → AreAt image places.rest (optional_sectors config machine places.zero_place file places.rest)
          → option_map (λ slot. file_content image machine slot (unwrap_or (option_map (λ (file : MappedFile). file.size) file) 0) (optional_chain config machine file)) (option_map (λ (file : MappedFile). goes (place_of_sector places.rest 0)) file) ≡ option_map whole bytes
      by-message None None lies lie = refl
      by-message None (Some bytes) lies lie = absurd lies
      by-message (Some file) None lies lie = absurd lies
      by-message (Some file) (Some bytes) lies lie = ap Some (file-shown image machine config places.line places.zero_place file bytes places.rest lies rest-named lie)

  settings-read : settings_of said ≡ menu.settings
  unfolding settings_of plan_boot
  settings-read = sym s.prompt_is

  -- the map shows the menu
  pub map-shows : Shows image machine span menu line
  unfolding read-map plan_boot
  map-shows = record {
    boot = said;
    says = boot-read;
    settings = settings-read;
    line_place = places.line;
    line_at = s.named.0.names;
    sectors = read-sectors;
    reads = sectors-read;
    good = read-map;
    is_good = map-good;
    line_is = refl;
    listed = listed-read;
    message = message-read;
    entries = subst (λ menu. ShowsEntries image machine places.line entries menu) (sym s.entries) (shown-entries image machine places.line entries (entries_for plan.sections targets) shown);
  }

pub map_law : MapLaw
map_law image machine span plan menu targets line places present keys memory s =
    shows_law image machine span menu line keys memory (map-shows image machine span plan menu targets line places present s)
