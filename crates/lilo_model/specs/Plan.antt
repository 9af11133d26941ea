-- The map that an installation plans: its sectors and its boot sector, as a function of what is mapped and of the
-- places where the sectors are to lie. Each part takes its places from the head of a list, so that no index is
-- reckoned. (These formats are this project's own.)
use Rattle.std.specs.Prelude.{ℕ, zero, suc, ◌+◌, ◌*◌, ◌/◌, Bool, ◌||◌, if◌then◌else◌, List, [], ◌∷◌, ◌++◌, map, flat_map, length, take, drop, sum}
use Rattle.std.specs.Prelude.{slice_index_or, replicate, Option, Some, None, is_some, option_map, unwrap_or}
use Rattle.std.specs.List.{range_with_len}
use Rattle.std.specs.Result.{result_ok}
use Rattle.lilo_model.specs.Bytes.{part_of, filled_bytes}
use Rattle.lilo_model.specs.Disks.{Machine, DiskSector}
use Rattle.lilo_model.specs.Conf.{Config, ConfSection}
use Rattle.lilo_model.specs.Slots.{Slot, Mode, Lba32, slot_make, could_be_one}
use Rattle.lilo_model.specs.Section.{section_bytes}
use Rattle.lilo_model.specs.Table.{Descriptor, descriptor_bytes, other_flag, password_flag, restricted_flag, lock_flag, fallback_flag, video_flag, initrd_flag}
use Rattle.lilo_model.specs.Table.{table_flag}
use Rattle.lilo_model.specs.Options.{Extra, options_bytes, extra_bytes}
use Rattle.lilo_model.specs.LineSector.{line_bytes}
use Rattle.lilo_model.specs.DefaultLine.{Empty}
use Rattle.lilo_model.specs.BootSector.{BootSector, merged_sector}
use Rattle.lilo_model.specs.ConfLawful.{names_of_section}
use Rattle.lilo_model.specs.Meant.{middle_text, default_place}

-- ---- what is mapped

-- a file: its bytes, and where each 512 of them lie that are begun, or a hole
pub record MappedFile : Type 0 where
  pub size : ℕ
  pub places : List (Option DiskSector)

-- a section that isn't omitted, and the files that are mapped for it
pub record MappedSection : Type 0 where
  pub section : ConfSection
  pub main : MappedFile
  pub initrd : Option MappedFile

-- all that a map is made of
pub record Plan : Type 0 where
  pub config : Config
  -- the time of installation
  pub time : ℕ
  -- the first sector of the file with the code
  pub code : List ℕ
  pub message : Option MappedFile
  pub sections : List MappedSection

-- ---- slots

-- a sector that no slot names
abbrev pub no_slot : Slot
no_slot = record { disk = 0; count = 1; address = Lba32 0 }

-- where a place can be named, the slot of it
unfoldable pub slot_to : Mode → Machine → DiskSector → Slot
slot_to mode machine place =
    unwrap_or (result_ok (slot_make mode (machine.geometry_of place.disk) place.disk place.sector 1)) no_slot

-- slots, of which neighbours that could be one are one: each takes the next ones as long as it can
abbrev pub joined_slots : Machine → Slot → List Slot → List Slot
joined_slots machine slot [] = slot ∷ []
joined_slots machine slot (next ∷ others) =
    if could_be_one (machine.geometry_of slot.disk) slot next
    then joined_slots machine (record slot { count = slot.count + next.count }) others
    else slot ∷ joined_slots machine next others

-- the same of a list
abbrev pub compact_slots : Machine → List Slot → List Slot
compact_slots machine [] = []
compact_slots machine (slot ∷ others) = joined_slots machine slot others

-- how many slots are begun after one that is held; a hole adjoins nothing
abbrev pub slots_after : Machine → Option Slot → List (Option Slot) → ℕ
slots_after machine held [] = 0
slots_after machine held (None ∷ others) = 1 + slots_after machine None others
slots_after machine None (Some next ∷ others) = 1 + slots_after machine (Some next) others
slots_after machine (Some slot) (Some next ∷ others) =
    if could_be_one (machine.geometry_of slot.disk) slot next
    then slots_after machine (Some (record slot { count = slot.count + next.count })) others
    else 1 + slots_after machine (Some next) others

-- how many slots a file takes, reckoned before the zero sector has its place: later they may be fewer
unfoldable pub slots_for : Config → Machine → MappedFile → ℕ
slots_for config machine file =
    if config.compact
    then slots_after machine None (map (option_map (slot_to config.mode machine)) file.places)
    else length file.places

-- how many section sectors some slots take
abbrev pub section_sectors : ℕ → ℕ
section_sectors slots = (slots + 62) / 63

-- how many section sectors a file takes
unfoldable pub chain_for : Config → Machine → MappedFile → ℕ
chain_for config machine file = section_sectors (slots_for config machine file)

-- the same of a file that may be absent
abbrev pub optional_chain : Config → Machine → Option MappedFile → ℕ
optional_chain config machine None = 0
optional_chain config machine (Some file) = chain_for config machine file

-- the sectors of a file in order, the zero sector where there is a hole
abbrev pub filled_places : DiskSector → List (Option DiskSector) → List DiskSector
filled_places zero_place places = map (λ place. unwrap_or place zero_place) places

-- the slots of a file
unfoldable pub file_slots : Config → Machine → DiskSector → MappedFile → List Slot
file_slots config machine zero_place file =
    if config.compact
    then compact_slots machine (map (slot_to config.mode machine) (filled_places zero_place file.places))
    else map (slot_to config.mode machine) (filled_places zero_place file.places)

-- ---- places

-- where no sector lies
abbrev pub nowhere : DiskSector
nowhere = record { disk = 0; sector = 0 }

-- the place of a sector of the map
abbrev pub place_of_sector : List DiskSector → ℕ → DiskSector
place_of_sector places index = slice_index_or places index nowhere

-- the link of a section sector to the next one, where there are more
abbrev pub link_to : (DiskSector → Slot) → ℕ → List DiskSector → Option Slot
link_to to zero behind = None
link_to to (suc more) behind = Some (to (place_of_sector behind 0))

-- so many section sectors with slots, of which all but the first lie at the places after it
abbrev pub chain_sectors : (DiskSector → Slot) → ℕ → List Slot → List DiskSector → List (List ℕ)
chain_sectors to zero slots behind = []
chain_sectors to (suc more) slots behind =
    section_bytes (take 63 slots) (link_to to more behind) ∷ chain_sectors to more (drop 63 slots) (drop 1 behind)

-- the section sectors of a file that lie at places
unfoldable pub file_sectors : Config → Machine → DiskSector → MappedFile → List DiskSector → List (List ℕ)
file_sectors config machine zero_place file places =
    chain_sectors
    (slot_to config.mode machine)
    (chain_for config machine file)
    (file_slots config machine zero_place file)
    (drop 1 places)

-- the same of a file that may be absent
abbrev pub optional_sectors : Config → Machine → DiskSector → Option MappedFile → List DiskSector → List (List ℕ)
optional_sectors config machine zero_place None places = []
optional_sectors config machine zero_place (Some file) places = file_sectors config machine zero_place file places

-- ---- a section

-- whether a section has an extra sector
abbrev pub needs_extra : ConfSection → Bool
needs_extra section = is_some section.password || is_some section.fallback

-- its texts
abbrev pub extra_of : ConfSection → Extra
extra_of section = record { fallback = unwrap_or section.fallback []; password = unwrap_or section.password [] }

-- the extra sector, where there is one
abbrev pub extra_sectors : ConfSection → List (List ℕ)
extra_sectors section =
    if needs_extra section
    then extra_bytes (extra_of section) ∷ []
    else []

-- the places of the main file's section sectors, and of all after them
abbrev pub main_places : ConfSection → List DiskSector → List DiskSector
main_places section places = drop (length (extra_sectors section)) (drop 1 places)

-- those of the initrd's
abbrev pub initrd_places : Config → Machine → MappedSection → List DiskSector → List DiskSector
initrd_places config machine mapped places =
    drop (chain_for config machine mapped.main) (main_places mapped.section places)

-- those after a section
abbrev pub places_after : Config → Machine → MappedSection → List DiskSector → List DiskSector
places_after config machine mapped places =
    drop (optional_chain config machine mapped.initrd) (initrd_places config machine mapped places)

-- the middle text that is kept of a section
abbrev pub kept_middle : ConfSection → List ℕ
kept_middle section = if is_some section.other then [] else middle_text section

-- the sectors of a section that lie at places
unfoldable pub section_sectors_at : Config → Machine → DiskSector → MappedSection → List DiskSector → List (List ℕ)
section_sectors_at config machine zero_place mapped places =
    options_bytes (kept_middle mapped.section)
    ∷ (extra_sectors mapped.section
    ++ (file_sectors config machine zero_place mapped.main (main_places mapped.section places)
    ++ optional_sectors config machine zero_place mapped.initrd (initrd_places config machine mapped places)))

-- a flag, where it is set
abbrev pub flag_if : Bool → ℕ → ℕ
flag_if set flag = if set then flag else 0

-- the flags of a section
unfoldable pub flags_of : MappedSection → ℕ
flags_of mapped =
    flag_if (is_some mapped.section.other) other_flag
    + flag_if (is_some mapped.section.password) password_flag
    + flag_if mapped.section.restricted restricted_flag
    + flag_if mapped.section.lock lock_flag
    + flag_if (is_some mapped.section.fallback) fallback_flag
    + flag_if (is_some mapped.section.vga) video_flag
    + flag_if (is_some mapped.initrd) initrd_flag
    + flag_if (is_some mapped.section.table) table_flag

-- the descriptor of a section under a name, where its sectors lie at places
unfoldable pub descriptor_for : Config → Machine → MappedSection → List DiskSector → List ℕ → Descriptor
descriptor_for config machine mapped places name = record {
  name = name;
  flags = flags_of mapped;
  vga = unwrap_or mapped.section.vga 0;
  main_length = mapped.main.size;
  initrd_length = unwrap_or (option_map (λ file. file.size) mapped.initrd) 0;
  options = slot_to config.mode machine (place_of_sector places 0);
  first = slot_to config.mode machine (place_of_sector (main_places mapped.section places) 0);
  initrd = option_map (λ file. slot_to config.mode machine (place_of_sector (initrd_places config machine mapped places) 0)) mapped.initrd;
  chain = chain_for config machine mapped.main;
  initrd_chain = optional_chain config machine mapped.initrd;
  extra = if needs_extra mapped.section then Some (slot_to config.mode machine (place_of_sector places 1)) else None;
}

-- ---- all sections

-- the sectors of sections, one after the other
abbrev pub sections_sectors : Config → Machine → DiskSector → List MappedSection → List DiskSector → List (List ℕ)
sections_sectors config machine zero_place [] places = []
sections_sectors config machine zero_place (mapped ∷ others) places =
    section_sectors_at config machine zero_place mapped places
    ++ sections_sectors config machine zero_place others (places_after config machine mapped places)

-- their descriptors
abbrev pub sections_entries : Config → Machine → List MappedSection → List DiskSector → List Descriptor
sections_entries config machine [] places = []
sections_entries config machine (mapped ∷ others) places =
    map (descriptor_for config machine mapped places) (names_of_section mapped.section)
    ++ sections_entries config machine others (places_after config machine mapped places)

-- ---- the map

-- the place of the zero sector
abbrev pub zero_sector_place : List DiskSector → DiskSector
zero_sector_place places = place_of_sector places 4

-- the places after it: first those of the message
abbrev pub message_places : List DiskSector → List DiskSector
message_places places = drop 5 places

-- the places of the sections
abbrev pub sections_places : Plan → Machine → List DiskSector → List DiskSector
sections_places plan machine places = drop (optional_chain plan.config machine plan.message) (message_places places)

-- the entries of the table
unfoldable pub plan_entries : Plan → Machine → List DiskSector → List Descriptor
plan_entries plan machine places =
    sections_entries plan.config machine plan.sections (sections_places plan machine places)

-- the three sectors of a table
unfoldable pub sectors_of_table : List Descriptor → List (List ℕ)
sectors_of_table entries =
    map
    (λ index. part_of (filled_bytes 1536 (flat_map descriptor_bytes entries)) (512 * index) 512)
    (range_with_len 0 3)

-- the sectors of the map after the table
unfoldable pub sectors_after : Plan → Machine → List DiskSector → List (List ℕ)
sectors_after plan machine places =
    optional_sectors plan.config machine (zero_sector_place places) plan.message (message_places places)
    ++ sections_sectors plan.config machine (zero_sector_place places) plan.sections (sections_places plan machine places)

-- the sectors of the map, in order, for its places
unfoldable pub plan_sectors : Plan → Machine → List DiskSector → List (List ℕ)
plan_sectors plan machine places =
    line_bytes Empty
    ∷ (sectors_of_table (plan_entries plan machine places) ++ (replicate 512 0 ∷ sectors_after plan machine places))

-- how many sectors a section takes
abbrev pub section_size : Config → Machine → MappedSection → ℕ
section_size config machine mapped =
    1
    + length (extra_sectors mapped.section)
    + chain_for config machine mapped.main
    + optional_chain config machine mapped.initrd

-- how many sectors the map has
unfoldable pub map_size : Plan → Machine → ℕ
map_size plan machine =
    5 + optional_chain plan.config machine plan.message + sum (map (section_size plan.config machine) plan.sections)

-- the names of the plan, in the order of the table
unfoldable pub plan_names : Plan → List (List ℕ)
plan_names plan = flat_map (λ mapped. names_of_section mapped.section) plan.sections

-- the fields of the boot sector
unfoldable pub plan_boot : Plan → Machine → List DiskSector → BootSector
plan_boot plan machine places =
    let to : DiskSector → Slot = slot_to plan.config.mode machine in
    record {
      version = 1;
      time = plan.time;
      prompt = plan.config.prompt;
      delay = plan.config.delay;
      timeout = plan.config.timeout;
      names = length (plan_names plan);
      default_entry = default_place plan.config.default_name (plan_names plan);
      message_length = unwrap_or (option_map (λ file. file.size) plan.message) 0;
      message_chain = optional_chain plan.config machine plan.message;
      line = to (place_of_sector places 0);
      zero_sector = to (zero_sector_place places);
      message = option_map (λ file. to (place_of_sector (message_places places) 0)) plan.message;
      table = map (λ index. to (place_of_sector places index)) (range_with_len 1 3);
    }

-- the boot sector, with what stays of the sector that lies there
unfoldable pub plan_boot_sector : Plan → Machine → List DiskSector → List ℕ → List ℕ
plan_boot_sector plan machine places present =
    merged_sector (plan_boot plan machine places) (filled_bytes 512 plan.code) present
