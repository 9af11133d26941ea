-- A planned map that lies in a file of its own has Lays.
use Rattle.std.proofs.Common.{◌≡◌, ◌<◌, ℕ, suc, zero, ◌+◌, Bool, true, false, if◌then◌else◌, List, [], ◌∷◌, ◌++◌, map, length, take, drop, Option, None, Some, Ok, refl, sym, ap, subst, ◌∙◌, arith}
use Rattle.std.specs.Prelude.{option_map, unwrap_or, slice_index_or}
use Rattle.std.specs.List.{AllByRecursion}
use Rattle.std.proofs.Math.Seq.{drop-append_seam, take-append_seam}
use Rattle.std.proofs.lemmas.List.{length-map}
use Rattle.std.proofs.lemmas.List.Elements.{All-from_recursion}
use Rattle.lilo_model.specs.Checks.{◌>>=◌, each}
use Rattle.lilo_model.specs.Disks.{Image, Machine, Span, DiskSector, bytes_at}
use Rattle.lilo_model.specs.Slots.{Slot, place_at}
use Rattle.lilo_model.specs.Boot.{slot_bytes_at}
use Rattle.lilo_model.specs.BootSector.{BootSector}
use Rattle.lilo_model.specs.Table.{Descriptor, table_at}
use Rattle.lilo_model.specs.Conf.{Config}
use Rattle.lilo_model.specs.ConfLawful.{names_of_section}
use Rattle.lilo_model.specs.DefaultLine.{DefaultLine}
use Rattle.lilo_model.specs.Meant.{Target, Kernel, System, Menu, menu_of}
use Rattle.lilo_model.specs.MinixParts.{Volume}
use Rattle.lilo_model.specs.MinixNames.{names_in}
use Rattle.lilo_model.specs.Plan.{MappedFile, MappedSection, Plan, slot_to, place_of_sector, filled_places, compact_slots, chain_for, optional_chain, file_slots, file_sectors, optional_sectors, main_places, initrd_places, places_after, section_sectors_at, descriptor_for, sections_sectors, sections_entries, plan_boot}
use Rattle.lilo_model.specs.Planned.{planned, devices_in}
use Rattle.lilo_model.specs.Lays.{AreAsSaid, LaysFile, LaysOptional, LaysEntry, LaysNames, LaysSections, IsPlaceAt, AreAt, Lays}
use Rattle.map_laws.specs.Lies.{MapPlaces, all_places, AreNamed, FileLies, OptionalLies, TargetLies, TargetsLie, MapLies}
use Rattle.map_laws.specs.MapLays.{HoldsMap, LaysLaw, PlannedLaysLaw, AcceptedLaysLaw, LaysStaysLaw}
use Rattle.map_laws.specs.PlannedLies.{targets_for}
use Rattle.map_laws.proofs.Maximal.{compact_law}
use Rattle.map_laws.proofs.Files.{file-listed}
use Rattle.map_laws.proofs.Entries.{lie-prefix, FilesAt, section-at, slot-read}
use Rattle.map_laws.proofs.Whole as whole
use Rattle.map_laws.proofs.Planned.{map-lies}
use Rattle.map_laws.proofs.AcceptedWhole.{accepted_lies_law}
use Rattle.map_laws.proofs.Stays.{map_stays_law}

-- slots of one sector each have one
all-one : (machine : Machine) (to : DiskSector → Slot) (places : List DiskSector) → AreNamed machine to places → AllByRecursion (λ (slot : Slot). slot.count ≡ 1) (map to places)
all-one machine to [] named = tt
all-one machine to (place ∷ places) named = (named.0.one.one, all-one machine to places named.1)

-- ---- files

module _ (image : Image) (machine : Machine) (config : Config) (line_place zero_place : DiskSector) where
  abbrev to : DiskSector → Slot
  to = slot_to config.mode machine

  -- the slots of a file are as `compact` says
  as-said : (file : MappedFile) → AreNamed machine to (filled_places zero_place file.places) → AreAsSaid machine config.compact (file_slots config machine zero_place file)
  unfolding file_slots
  as-said file named = by config.compact
    where
      by : (compact : Bool) → AreAsSaid machine compact (if compact then compact_slots machine (map to (filled_places zero_place file.places)) else map to (filled_places zero_place file.places))
      by true = compact_law machine (map to (filled_places zero_place file.places))
      by false = All-from_recursion (λ (slot : Slot). slot.count ≡ 1) (map to (filled_places zero_place file.places)) (all-one machine to (filled_places zero_place file.places) named)

  file-laid : (file : MappedFile) (bytes : List ℕ) (own : List DiskSector) → FileLies image machine config line_place zero_place file bytes
      → AreNamed machine to own → AreAt image own (file_sectors config machine zero_place file own)
      → LaysFile image machine config zero_place file (to (place_of_sector own 0)) file.size (chain_for config machine file)
  file-laid file bytes own lies named lie =
      let both = file-listed image machine config line_place zero_place file bytes own lies named lie in
      record { size_is = refl; listed = both.0.all; whole = both.0.good; slots = subst (AreAsSaid machine config.compact) (sym both.1) (as-said file lies.named) }

  pub optional-laid : (file : Option MappedFile) (bytes : Option (List ℕ)) (own : List DiskSector) → OptionalLies image machine config line_place zero_place file bytes
      → AreNamed machine to own → AreAt image own (optional_sectors config machine zero_place file own)
      → LaysOptional image machine config zero_place file (option_map (λ (file : MappedFile). to (place_of_sector own 0)) file) (unwrap_or (option_map (λ (file : MappedFile). file.size) file) 0) (optional_chain config machine file)
  optional-laid None bytes own lies named lie = refl
  optional-laid (Some file) None own lies named lie = absurd lies
  optional-laid (Some file) (Some bytes) own lies named lie = file-laid file bytes own lies named lie

  -- ---- entries

  entry-laid : (mapped : MappedSection) (target : Target) (own : List DiskSector) (name : List ℕ) → TargetLies image machine config line_place zero_place mapped target → FilesAt image machine config zero_place mapped own
      → LaysEntry image machine config zero_place mapped (descriptor_for config machine mapped own name)
  unfolding descriptor_for
  entry-laid mapped (Kernel bytes initrd middle video) own name lies at = record {
    main = file-laid mapped.main bytes (main_places mapped.section own) lies.3 at.named at.main;
    initrd = optional-laid mapped.initrd initrd (initrd_places config machine mapped own) lies.4 at.named_ramdisk at.ramdisk;
  }
  entry-laid mapped (System sector table) own name lies at = record {
    main = file-laid mapped.main lies.3.bytes (main_places mapped.section own) lies.3.lies at.named at.main;
    initrd = optional-laid mapped.initrd None (initrd_places config machine mapped own) (subst (λ file. OptionalLies image machine config line_place zero_place file None) (sym lies.2) tt) at.named_ramdisk at.ramdisk;
  }

  names-laid : (mapped : MappedSection) (target : Target) (own : List DiskSector) (names : List (List ℕ)) → TargetLies image machine config line_place zero_place mapped target → FilesAt image machine config zero_place mapped own
      → LaysNames image machine config zero_place mapped names (map (descriptor_for config machine mapped own) names)
  unfolding descriptor_for
  names-laid mapped target own [] lies at = tt
  names-laid mapped target own (name ∷ names) lies at = (refl, entry-laid mapped target own name lies at, names-laid mapped target own names lies at)

  pub sections-laid : (sections : List MappedSection) (targets : List Target) (own : List DiskSector) → TargetsLie image machine config line_place zero_place sections targets
      → AreNamed machine to own → AreAt image own (sections_sectors config machine zero_place sections own)
      → LaysSections image machine config zero_place sections (sections_entries config machine sections own)
  sections-laid [] [] own lies named lie = refl
  sections-laid [] (target ∷ targets) own lies named lie = absurd lies
  sections-laid (mapped ∷ sections) [] own lies named lie = absurd lies
  sections-laid (mapped ∷ sections) (target ∷ targets) own lies named lie =
      let names = names_of_section mapped.section in
      let after = places_after config machine mapped own in
      let here = map (descriptor_for config machine mapped own) names in
      let others = sections_entries config machine sections after in
      let sectors = section_sectors_at config machine zero_place mapped own in
      let rest = sections_sectors config machine zero_place sections after in
      let count : length here ≡ length names = length-map names (descriptor_for config machine mapped own) in
      let front : take (length names) (here ++ others) ≡ here = ap (λ n. take n (here ++ others)) (sym count) ∙ take-append_seam here others in
      let back : drop (length names) (here ++ others) ≡ others = ap (λ n. drop n (here ++ others)) (sym count) ∙ drop-append_seam here others in (
        subst (LaysNames image machine config zero_place mapped names) (sym front)
            (names-laid mapped target own names lies.1 (section-at image machine config zero_place mapped own named (lie-prefix image own sectors rest lie))),
        subst (LaysSections image machine config zero_place sections) (sym back)
            (sections-laid sections targets after lies.2 (whole.named-after image machine config line_place zero_place mapped own named) (whole.section-after image machine config line_place zero_place mapped own rest lie)),
      )

-- ---- the whole map

module _ (image : Image) (machine : Machine) (span : Span) (plan : Plan) (menu : Menu) (targets : List Target) (line : DefaultLine) (places : MapPlaces) (present : List ℕ)
    (s : MapLies image machine span plan menu targets line places present) where
  abbrev goes : DiskSector → Slot
  goes = slot_to plan.config.mode machine

  abbrev said : BootSector
  said = plan_boot plan machine (all_places places)

  abbrev entries : List Descriptor
  entries = whole.entries image machine span plan menu targets line places present s

  table-at : (index : ℕ) → index < 3 → IsPlaceAt (all_places places) (1 + index) (place_at machine (slice_index_or said.table index said.line) 0)
  unfolding plan_boot
  table-at zero below = (places.one, refl, s.named.1.0.names)
  table-at (suc zero) below = (places.two, refl, s.named.1.1.0.names)
  table-at (suc (suc zero)) below = (places.three, refl, s.named.1.1.1.0.names)
  table-at (suc (suc (suc index))) below = absurd (omega (arith, below))

  table-says : (each (map (slot_bytes_at image machine) said.table) >>= λ sectors. Ok (table_at said.names sectors)) ≡ Ok (Ok entries)
  unfolding plan_boot
  table-says =
      rw (
        slot-read image machine goes places.one (bytes_at image places.one) s.named.1.0 refl,
        slot-read image machine goes places.two (bytes_at image places.two) s.named.1.1.0 refl,
        slot-read image machine goes places.three (bytes_at image places.three) s.named.1.1.1.0 refl,
        whole.table-lies image machine span plan menu targets line places present s,
        whole.table-read image machine span plan menu targets line places present s,
      ) refl

  message-laid : LaysOptional image machine plan.config places.zero_place plan.message said.message said.message_length said.message_chain
  unfolding plan_boot
  message-laid = optional-laid image machine plan.config places.line places.zero_place plan.message menu.message places.rest s.message s.named.1.1.1.1.1 (whole.message-lie image machine span plan menu targets line places present s)

  pub lays : (volume : Volume) (path : List (List ℕ)) → HoldsMap image machine volume plan path (all_places places) → Lays image machine volume span plan path present
  unfolding plan_boot
  lays volume path h = record {
    boot = said;
    says = whole.boot-read image machine span plan menu targets line places present s;
    holder = h.holder;
    leads = h.leads;
    regular = h.regular;
    places = all_places places;
    solid = h.solid;
    size_is = h.size_is;
    layout = s.lies;
    odd = h.odd;
    line = (places.line, refl, s.named.0.names);
    table = table-at;
    zero_place = places.zero_place;
    zero_is = (refl, s.named.1.1.1.1.0.names);
    zeros = whole.zeros-lie image machine span plan menu targets line places present s;
    message = message-laid;
    entries = entries;
    table_says = table-says;
    default = refl;
    files = sections-laid image machine plan.config places.line places.zero_place plan.sections targets (whole.after image machine span plan menu targets line places present s) s.targets_lie
        (whole.after-named image machine span plan menu targets line places present s) (whole.sections-lie image machine span plan menu targets line places present s);
    code = whole.code-read image machine span plan menu targets line places present s;
    kept = whole.kept-read image machine span plan menu targets line places present s;
  }

pub lays_law : LaysLaw
lays_law image machine volume span plan menu targets line places present path s h = lays image machine span plan menu targets line places present s volume path h

pub planned_lays_law : PlannedLaysLaw
planned_lays_law before image machine volume span config time devices line places present path sound s h =
    lays_law image machine volume span (planned before machine volume config time) (menu_of config (names_in volume before) devices) (targets_for (names_in volume before) devices config.sections) line places present path
    (map-lies before image machine volume span config time devices line places present sound s) h

pub accepted_lays_law : AcceptedLaysLaw
accepted_lays_law before image machine volume span config time line places present path sound a w h =
    planned_lays_law before image machine volume span config time (devices_in before machine) line places present path sound
    (accepted_lies_law before image machine volume span config time line places present sound a w) h

pub lays_stays_law : LaysStaysLaw
lays_stays_law image c machine volume span plan menu targets line other places present path s same is h =
    lays_law c machine volume span plan menu targets other places present path
    (map_stays_law image c machine span plan menu targets line other places present s same is) h
