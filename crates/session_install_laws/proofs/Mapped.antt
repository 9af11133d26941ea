-- What a boot of a planned map may look at lies where the map and its files do.
use Rattle.std.proofs.Common.{◌≡◌, ◌≢◌, ℕ, Bool, true, false, if◌then◌else◌, List, [], ◌∷◌, ◌++◌, map, length, drop, Option, None, Some, Result, Ok, refl, sym, ap, subst, ◌∙◌, get_or}
use Rattle.std.specs.Prelude.{option_map, unwrap_or, flat_map}
use Rattle.std.specs.List.{All, Contains}
use Rattle.std.specs.Result.{result_ok}
use Rattle.std.proofs.lemmas.List.Elements.{All-nil, All-cons, All-head, All-tail, All-append, All-drop, All-contains, All-contains_itself, All-from_recursion, Contains-get_or, Contains-append_left, Contains-append_right}
use Rattle.lilo_model.specs.BootSector.{BootSector, boot_at}
use Rattle.lilo_model.specs.Checks.{each}
use Rattle.lilo_model.specs.Conf.{Config}
use Rattle.lilo_model.specs.ConfLawful.{names_of_section}
use Rattle.lilo_model.specs.DefaultLine.{DefaultLine}
use Rattle.lilo_model.specs.Disks.{Image, Machine, Span, DiskSector, bytes_at}
use Rattle.lilo_model.specs.Lays.{AreAt}
use Rattle.lilo_model.specs.Mapped as mapping
use Rattle.lilo_model.specs.Mapped.{found_places, slot_places, optional_places, listing_places, file_places, entry_places, behind_table, behind_sector, map_places, mapped_sectors}
use Rattle.lilo_model.specs.Meant.{Target, Kernel, System, Menu}
use Rattle.lilo_model.specs.Options.{extra_bytes}
use Rattle.lilo_model.specs.Plan.{MappedFile, MappedSection, Plan, slot_to, place_of_sector, filled_places, chain_for, optional_chain, file_sectors, optional_sectors, needs_extra, extra_of, extra_sectors, main_places, initrd_places, places_after, section_sectors_at, descriptor_for, sections_sectors, sections_entries, plan_names, plan_boot}
use Rattle.lilo_model.specs.Section.{file_listing}
use Rattle.lilo_model.specs.Slots.{AddressFault, Slot, place_at}
use Rattle.lilo_model.specs.Table.{Descriptor, table_at}
use Rattle.map_laws.specs.Lies.{MapPlaces, table_places, after_line, all_places, IsNamed, AreNamed, FileLies, OptionalLies, TargetLies, TargetsLie, MapLies}
use Rattle.map_laws.specs.MapStays.{file_sectors_of, section_places, fixed_places}
use Rattle.map_laws.proofs.Entries.{lie-prefix, files-at}
use Rattle.map_laws.proofs.Lines.{fixed-apart}
use Rattle.map_laws.proofs.Whole as whole
use Rattle.session_model.specs.Keeps.{IsLineApart, others_behind}
use Rattle.session_model.specs.Site.{Site, boot_place}
use Rattle.session_install_laws.specs.Planned.{MappedLiesLaw, LineApartLaw}
use Rattle.session_install_laws.proofs.Looked.{file-mapped}

module _ (P : DiskSector → Type 0) where
  -- what all of two lists have, the first has, and the second
  front : (first second : List DiskSector) → All P (first ++ second) → All P first
  front first second all k d below = All-contains P (first ++ second) (get_or first k d) all (Contains-append_left first second (get_or first k d) (Contains-get_or first k d below))

  back : (first second : List DiskSector) → All P (first ++ second) → All P second
  back first second all k d below = All-contains P (first ++ second) (get_or second k d) all (Contains-append_right first second (get_or second k d) (Contains-get_or second k d below))

  module _ (image : Image) (machine : Machine) (config : Config) (line_place zero_place : DiskSector) where
    abbrev to : DiskSector → Slot
    to = slot_to config.mode machine

    -- a slot of one sector
    slot-mapped : (place : DiskSector) → IsNamed machine to place → P place → All P (slot_places machine (to place))
    slot-mapped place named has = subst (λ found. All P (found_places (found ∷ []))) (sym named.names) (All-cons P place [] has (All-nil P))

    -- a file that may be absent
    optional-mapped : (file : Option MappedFile) (bytes : Option (List ℕ)) (own : List DiskSector) → OptionalLies image machine config line_place zero_place file bytes
        → AreNamed machine to own → AreAt image own (optional_sectors config machine zero_place file own) → All P own → All P (file_sectors_of zero_place file)
        → All P (file_places (λ slot. file_listing image machine slot (unwrap_or (option_map (λ (file : MappedFile). file.size) file) 0) (optional_chain config machine file))
        (option_map (λ (file : MappedFile). to (place_of_sector own 0)) file))
    optional-mapped None bytes own lies named lie all filled = All-nil P
    optional-mapped (Some file) None own lies named lie all filled = absurd lies
    optional-mapped (Some file) (Some bytes) own lies named lie all filled = file-mapped P image machine config line_place zero_place file bytes own lies named lie all filled

    -- ---- entries

    extra-mapped : (needs : Bool) (first : DiskSector) (own : List DiskSector) (bytes : List ℕ) → AreNamed machine to own → AreAt image own (if needs then bytes ∷ [] else []) → All P own
        → All P (optional_places machine (if needs then Some (to (place_of_sector (first ∷ own) 1)) else None))
    extra-mapped false first own bytes named lie all = All-nil P
    extra-mapped true first [] bytes named lie all = absurd lie
    extra-mapped true first (place ∷ own) bytes named lie all = slot-mapped place named.0 (All-head P place own all)

    main-lies : (mapped : MappedSection) (target : Target) → TargetLies image machine config line_place zero_place mapped target
        → (bytes : List ℕ) × FileLies image machine config line_place zero_place mapped.main bytes
    main-lies mapped (Kernel bytes initrd middle video) lies = (bytes, lies.3)
    main-lies mapped (System sector table) lies = (lies.3.bytes, lies.3.lies)

    initrd-lies : (mapped : MappedSection) (target : Target) → TargetLies image machine config line_place zero_place mapped target
        → (bytes : Option (List ℕ)) × OptionalLies image machine config line_place zero_place mapped.initrd bytes
    initrd-lies mapped (Kernel bytes initrd middle video) lies = (initrd, lies.4)
    initrd-lies mapped (System sector table) lies = (None, subst (λ file. OptionalLies image machine config line_place zero_place file None) (sym lies.2) tt)

    entry-mapped : (mapped : MappedSection) (target : Target) (own : List DiskSector) (name : List ℕ) → TargetLies image machine config line_place zero_place mapped target
        → AreNamed machine to own → AreAt image own (section_sectors_at config machine zero_place mapped own) → All P own → All P (section_places zero_place mapped)
        → All P (entry_places image machine (descriptor_for config machine mapped own name))
    unfolding section_sectors_at descriptor_for entry_places
    entry-mapped mapped target [] name lies named lie all filled = absurd lie
    entry-mapped mapped target (first ∷ own) name lies named lie all filled =
        let places = first ∷ own in
        let main_own = main_places mapped.section places in
        let initrd_own = initrd_places config machine mapped places in
        let mains = file_sectors config machine zero_place mapped.main main_own in
        let initrds = optional_sectors config machine zero_place mapped.initrd initrd_own in
        let files = files-at image machine config zero_place mapped first own named.1 lie.1 in
        let main = main-lies mapped target lies in
        let initrd = initrd-lies mapped target lies in
        let own_all = All-tail P first own all in
        let main_all = All-drop P (length (extra_sectors mapped.section)) own own_all in
        let initrd_all = All-drop P (chain_for config machine mapped.main) main_own main_all in
        let here = filled_places zero_place mapped.main.places in
        let there = file_sectors_of zero_place mapped.initrd in
        let options_looked = slot_places machine (to first) in
        let extra_looked = optional_places machine (if needs_extra mapped.section then Some (to (place_of_sector places 1)) else None) in
        let main_looked = listing_places (file_listing image machine (to (place_of_sector main_own 0)) mapped.main.size (chain_for config machine mapped.main)) in
        let initrd_looked = file_places (λ slot. file_listing image machine slot (unwrap_or (option_map (λ (file : MappedFile). file.size) mapped.initrd) 0) (optional_chain config machine mapped.initrd)) (option_map (λ (file : MappedFile). to (place_of_sector initrd_own 0)) mapped.initrd) in
        let options = slot-mapped first named.0 (All-head P first own all) in
        let extra = extra-mapped (needs_extra mapped.section) first own (extra_bytes (extra_of mapped.section)) named.1 (lie-prefix image own (extra_sectors mapped.section) (mains ++ initrds) lie.1) own_all in
        All-append P ((options_looked ++ extra_looked) ++ main_looked) initrd_looked
        (All-append P (options_looked ++ extra_looked) main_looked (All-append P options_looked extra_looked options extra)
        (file-mapped P image machine config line_place zero_place mapped.main main.0 main_own main.1 files.named files.main main_all (front here there filled)))
        (optional-mapped mapped.initrd initrd.0 initrd_own initrd.1 files.named_ramdisk files.ramdisk initrd_all (back here there filled))

    -- those of one section, and then others
    names-mapped : (mapped : MappedSection) (own : List DiskSector) (names : List (List ℕ)) (entries : List Descriptor) → ((name : List ℕ) → All P (entry_places image machine (descriptor_for config machine mapped own name)))
        → All P (flat_map (entry_places image machine) entries) → All P (flat_map (entry_places image machine) (map (descriptor_for config machine mapped own) names ++ entries))
    names-mapped mapped own [] entries has others = others
    names-mapped mapped own (name ∷ names) entries has others =
        All-append P (entry_places image machine (descriptor_for config machine mapped own name)) (flat_map (entry_places image machine) (map (descriptor_for config machine mapped own) names ++ entries))
        (has name) (names-mapped mapped own names entries has others)

    sections-mapped : (sections : List MappedSection) (targets : List Target) (own : List DiskSector) → TargetsLie image machine config line_place zero_place sections targets
        → AreNamed machine to own → AreAt image own (sections_sectors config machine zero_place sections own) → All P own → All P (flat_map (section_places zero_place) sections)
        → All P (flat_map (entry_places image machine) (sections_entries config machine sections own))
    sections-mapped [] [] own lies named lie all filled = All-nil P
    sections-mapped [] (target ∷ targets) own lies named lie all filled = absurd lies
    sections-mapped (mapped ∷ sections) [] own lies named lie all filled = absurd lies
    sections-mapped (mapped ∷ sections) (target ∷ targets) own lies named lie all filled =
        let after = places_after config machine mapped own in
        let others = sections_sectors config machine zero_place sections after in
        let here = section_places zero_place mapped in
        let there = flat_map (section_places zero_place) sections in
        let main_all = All-drop P (length (extra_sectors mapped.section)) (drop 1 own) (All-drop P 1 own all) in
        let initrd_all = All-drop P (chain_for config machine mapped.main) (main_places mapped.section own) main_all in
        let after_all = All-drop P (optional_chain config machine mapped.initrd) (initrd_places config machine mapped own) initrd_all in
        names-mapped mapped own (names_of_section mapped.section) (sections_entries config machine sections after)
        (λ name. entry-mapped mapped target own name lies.1 named (lie-prefix image own (section_sectors_at config machine zero_place mapped own) others lie) all (front here there filled))
        (sections-mapped sections targets after lies.2 (whole.named-after image machine config line_place zero_place mapped own named) (whole.section-after image machine config line_place zero_place mapped own others lie) after_all (back here there filled))

  -- ---- the whole map

  module _ (image : Image) (machine : Machine) (span : Span) (plan : Plan) (menu : Menu) (targets : List Target) (line : DefaultLine) (places : MapPlaces) (present : List ℕ)
      (s : MapLies image machine span plan menu targets line places present) where
    abbrev goes : DiskSector → Slot
    goes = slot_to plan.config.mode machine

    abbrev pub said : BootSector
    said = plan_boot plan machine (all_places places)

    abbrev checks : List (Result DiskSector AddressFault)
    checks = map (λ slot. place_at machine slot 0) said.table

    abbrev entries : List Descriptor
    entries = whole.entries image machine span plan menu targets line places present s

    abbrev files : List DiskSector
    files = file_sectors_of places.zero_place plan.message ++ flat_map (section_places places.zero_place) plan.sections

    checks-are : checks ≡ Ok places.one ∷ (Ok places.two ∷ (Ok places.three ∷ []))
    unfolding plan_boot
    checks-are = rw (s.named.1.0.names, s.named.1.1.0.names, s.named.1.1.1.0.names) refl

    table-read : table_at said.names (map (bytes_at image) (table_places places)) ≡ Ok entries
    unfolding plan_boot
    table-read =
        ap (table_at (length (plan_names plan))) (whole.table-lies image machine span plan menu targets line places present s)
        ∙ whole.table-read image machine span plan menu targets line places present s

    -- the Mapped sectors without the boot sector and the default line's
    pub others-mapped : All P (after_line places ++ files) → All P (found_places checks ++ behind_table image machine said (each checks))
    unfolding plan_boot
    others-mapped all =
        let after_all = front (after_line places) files all in
        let files_all = back (after_line places) files all in
        let rest_all = All-drop P 4 (after_line places) after_all in
        let message_files = file_sectors_of places.zero_place plan.message in
        let section_files = flat_map (section_places places.zero_place) plan.sections in
        let after = whole.after image machine span plan menu targets line places present s in
        let message =
        optional-mapped image machine plan.config places.line places.zero_place plan.message menu.message places.rest s.message s.named.1.1.1.1.1
        (whole.message-lie image machine span plan menu targets line places present s) rest_all (front message_files section_files files_all) in
        let sections =
        sections-mapped image machine plan.config places.line places.zero_place plan.sections targets after s.targets_lie
        (whole.after-named image machine span plan menu targets line places present s) (whole.sections-lie image machine span plan menu targets line places present s)
        (All-drop P (optional_chain plan.config machine plan.message) places.rest rest_all) (back message_files section_files files_all) in
        let table_all = front (table_places places) (places.zero_place ∷ places.rest) after_all in
        subst (λ found. All P (found_places found ++ behind_table image machine said (each found))) (sym checks-are)
        (All-append P (table_places places) (mapping.table_places image machine said (table_at said.names (map (bytes_at image) (table_places places)))) table_all
        (subst (λ read. All P (mapping.table_places image machine said read)) (sym table-read)
        (All-append P (file_places (λ slot. file_listing image machine slot said.message_length said.message_chain) said.message) (flat_map (entry_places image machine) entries) message sections)))

    -- and with them
    line-mapped : P places.line → All P (slot_places machine said.line)
    unfolding plan_boot
    line-mapped has = slot-mapped image machine plan.config places.line places.zero_place places.line s.named.0 has

    pub all-mapped : All P (places.line ∷ fixed_places span plan places) → All P (mapped_sectors image machine span)
    unfolding mapped_sectors map_places
    all-mapped all =
        let boot : DiskSector = record { disk = span.disk; sector = span.start } in
        let fixed = All-tail P places.line (fixed_places span plan places) all in
        let others = others-mapped (All-tail P boot (after_line places ++ files) fixed) in
        let line_looked = slot_places machine said.line in
        let table_looked = found_places checks in
        let behind = behind_table image machine said (each checks) in
        let line_all = line-mapped (All-head P places.line (fixed_places span plan places) all) in
        All-cons P boot (behind_sector image machine (boot_at (image span.disk span.start))) (All-head P boot (after_line places ++ files) fixed)
        (subst (λ read. All P (behind_sector image machine read)) (sym (whole.boot-read image machine span plan menu targets line places present s))
        (All-append P (line_looked ++ table_looked) behind (All-append P line_looked table_looked line_all (front table_looked behind others)) (back table_looked behind others)))

-- ---- the laws

pub mapped_lies_law : MappedLiesLaw
mapped_lies_law image machine span plan menu targets line places present s =
    let lying = places.line ∷ fixed_places span plan places in
    all-mapped (Contains lying) image machine span plan menu targets line places present s (All-contains_itself lying)

-- the boot sector names the default line's place
pub line-named : (image : Image) (machine : Machine) (span : Span) (plan : Plan) (menu : Menu) (targets : List Target) (line : DefaultLine) (places : MapPlaces) (present : List ℕ)
    → MapLies image machine span plan menu targets line places present → place_at machine (plan_boot plan machine (all_places places)).line 0 ≡ Ok places.line
unfolding plan_boot
line-named image machine span plan menu targets line places present s = s.named.0.names

module _ (site : Site) (image : Image) (plan : Plan) (menu : Menu) (targets : List Target) (line : DefaultLine) (places : MapPlaces) (present : List ℕ)
    (s : MapLies image site.machine site.boot plan menu targets line places present) (elsewhere : places.line ≢ boot_place site) where
  abbrev Said : BootSector
  Said = plan_boot plan site.machine (all_places places)

  apart : All (λ other. other ≢ places.line) (others_behind site image Said)
  unfolding others_behind
  apart =
      others-mapped (λ other. other ≢ places.line) image site.machine site.boot plan menu targets line places present s
      (All-from_recursion (λ other. other ≢ places.line)
      (after_line places ++ (file_sectors_of places.zero_place plan.message ++ flat_map (section_places places.zero_place) plan.sections))
      (fixed-apart image site.machine site.boot plan menu targets line places present s elsewhere).1)

  boot-is : (boot : BootSector) → boot_at (image site.boot.disk site.boot.start) ≡ Ok boot → Said ≡ boot
  boot-is boot says = ap (λ found. unwrap_or (result_ok found) boot) (sym (whole.boot-read image site.machine site.boot plan menu targets line places present s) ∙ says)

  place-is : (boot : BootSector) (place : DiskSector) → Said ≡ boot → place_at site.machine boot.line 0 ≡ Ok place → places.line ≡ place
  place-is boot place is named =
      ap (λ found. unwrap_or (result_ok found) place)
      (sym (line-named image site.machine site.boot plan menu targets line places present s) ∙ (ap (λ (one : BootSector). place_at site.machine one.line 0) is ∙ named))

  line-apart : IsLineApart site image
  line-apart boot place says named =
      let is = boot-is boot says in
      let same = place-is boot place is named in (
        subst (λ one. boot_place site ≢ one) same (λ both. elsewhere (sym both)),
        subst (λ one. All (λ other. other ≢ one) (others_behind site image boot)) same (subst (λ one. All (λ other. other ≢ places.line) (others_behind site image one)) is apart),
      )

pub line_apart_law : LineApartLaw
line_apart_law site image plan menu targets line places present s elsewhere = line-apart site image plan menu targets line places present s elsewhere
