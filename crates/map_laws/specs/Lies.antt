-- Disks on which a planned map lies: what its contract says of the places, the files and the configuration.
use Rattle.std.specs.Prelude.{◌≡◌, ◌≢◌, ◌≤◌, ◌<◌, ℕ, ◌^◌, true, false, not, ◌&&◌, ◌||◌, if◌then◌else◌, List, [], ◌∷◌, ◌++◌, map, length, take, drop, bytes_eq}
use Rattle.std.specs.Prelude.{IfSome, Option, None, Some, is_some, Ok}
use Rattle.std.specs.List.{concat}
use Rattle.lilo_model.specs.Bytes.{part_of}
use Rattle.lilo_model.specs.Disks.{Image, Machine, Span, DiskSector, bytes_at}
use Rattle.lilo_model.specs.Conf.{Config, ConfSection}
use Rattle.lilo_model.specs.Slots.{Slot, place_at}
use Rattle.lilo_model.specs.Section.{sectors_for}
use Rattle.lilo_model.specs.LineSector.{line_at, line_capacity}
use Rattle.lilo_model.specs.DefaultLine.{DefaultLine}
use Rattle.lilo_model.specs.Prompt.{Key}
use Rattle.lilo_model.specs.Boot.{whole_boot}
pub use Rattle.map_again_laws.specs.Fits.{IsOneSlot, IsName}
use Rattle.lilo_model.specs.Meant.{Target, Kernel, System, MenuEntry, Menu, menu_entry, menu_boot, middle_text, default_place}
use Rattle.lilo_model.specs.ConfLawful.{names_of_section}
use Rattle.lilo_model.specs.Lays.{AreAt}
use Rattle.lilo_model.specs.Plan.{MappedFile, MappedSection, Plan, slot_to, slots_for, filled_places, plan_sectors, plan_boot_sector, plan_names}

-- the places of a map's sectors: its default line's, those of its table's three, the zero sector's, and all after it
pub record MapPlaces : Type 0 where
  pub line : DiskSector
  pub one : DiskSector
  pub two : DiskSector
  pub three : DiskSector
  pub zero_place : DiskSector
  pub rest : List DiskSector

abbrev pub table_places : MapPlaces → List DiskSector
table_places places = places.one ∷ (places.two ∷ (places.three ∷ []))

-- all but the default line's
abbrev pub after_line : MapPlaces → List DiskSector
after_line places = table_places places ++ (places.zero_place ∷ places.rest)

abbrev pub all_places : MapPlaces → List DiskSector
all_places places = places.line ∷ after_line places

-- a slot of one sector names a place
pub record IsNamed (machine : Machine) (to : DiskSector → Slot) (place : DiskSector) : Type 0 where
  pub one : IsOneSlot (to place)
  pub names : place_at machine (to place) 0 ≡ Ok place

abbrev pub AreNamed : Machine → (DiskSector → Slot) → List DiskSector → Type 0
AreNamed machine to [] = Unit {0}
AreNamed machine to (place ∷ places) = IsNamed machine to place × AreNamed machine to places

-- a place is none of these
abbrev pub IsNone : DiskSector → List DiskSector → Type 0
IsNone place [] = Unit {0}
IsNone place (other ∷ others) = (place ≢ other) × IsNone place others

-- a file of some bytes lies where it is mapped from, and not where the default line lies
pub record FileLies (image : Image) (machine : Machine) (config : Config) (line_place zero_place : DiskSector)
    (file : MappedFile) (bytes : List ℕ) : Type 0 where
  pub size : file.size ≡ length bytes
  pub some : 1 ≤ length bytes
  pub few : length bytes < 2 ^ 32
  pub slots : slots_for config machine file ≤ 4128705
  pub count : length file.places ≡ sectors_for (length bytes)
  pub named : AreNamed machine (slot_to config.mode machine) (filled_places zero_place file.places)
  pub apart : IsNone line_place (filled_places zero_place file.places)
  pub lies : take (length bytes) (concat (map (bytes_at image) (filled_places zero_place file.places))) ≡ bytes

abbrev pub OptionalLies : Image → Machine → Config → DiskSector → DiskSector → Option MappedFile → Option (List ℕ) → Type 0
OptionalLies image machine config line_place zero_place None None = Unit {0}
OptionalLies image machine config line_place zero_place None (Some bytes) = ⊥
OptionalLies image machine config line_place zero_place (Some file) None = ⊥
OptionalLies image machine config line_place zero_place (Some file) (Some bytes) = FileLies image machine config line_place zero_place file bytes

-- a section as the configuration's rules allow it
pub record IsFitSection (section : ConfSection) : Type 0 where
  pub middle : length (middle_text section) ≤ 255
  pub vga : IfSome section.vga (λ mode. mode < 2 ^ 16)
  pub fallback : IfSome section.fallback (λ text. length text ≤ 255)
  pub password : IfSome section.password (λ text. length text ≤ 31)
  pub lock : (section.lock && is_some section.fallback) ≡ false
  pub restricted : (not section.restricted || is_some section.password) ≡ true
  pub table : (not (is_some section.table) || is_some section.other) ≡ true
  pub system : (is_some section.other && is_some section.vga) ≡ false

-- the sectors of another system lie: its own, and of the table's the table
pub record SystemLies (image : Image) (machine : Machine) (config : Config) (line_place zero_place : DiskSector)
    (file : MappedFile) (sector : List ℕ) (table : Option (List ℕ)) : Type 0 where
  pub bytes : List ℕ
  pub lies : FileLies image machine config line_place zero_place file bytes
  pub long : length bytes ≡ (if is_some table then 1024 else 512)
  pub prefix : part_of bytes 0 512 ≡ sector
  pub suffix : IfSome table (λ table. part_of bytes 958 64 ≡ part_of table 446 64)

-- the files of a section's target lie
abbrev pub TargetLies : Image → Machine → Config → DiskSector → DiskSector → MappedSection → Target → Type 0
TargetLies image machine config line_place zero_place mapped (Kernel bytes initrd middle video) =
    (mapped.section.other ≡ None) × (middle_text mapped.section ≡ middle) × (mapped.section.vga ≡ video)
    × FileLies image machine config line_place zero_place mapped.main bytes
    × OptionalLies image machine config line_place zero_place mapped.initrd initrd
TargetLies image machine config line_place zero_place mapped (System sector table) =
    (is_some mapped.section.other ≡ true) × (is_some mapped.section.table ≡ is_some table) × (mapped.initrd ≡ None)
    × SystemLies image machine config line_place zero_place mapped.main sector table

abbrev pub TargetsLie : Image → Machine → Config → DiskSector → DiskSector → List MappedSection → List Target → Type 0
TargetsLie image machine config line_place zero_place [] [] = Unit {0}
TargetsLie image machine config line_place zero_place [] (target ∷ targets) = ⊥
TargetsLie image machine config line_place zero_place (mapped ∷ sections) [] = ⊥
TargetsLie image machine config line_place zero_place (mapped ∷ sections) (target ∷ targets) =
    IsFitSection mapped.section × TargetLies image machine config line_place zero_place mapped target
    × TargetsLie image machine config line_place zero_place sections targets

-- the entries of the menu that sections and their targets make
abbrev pub entries_for : List MappedSection → List Target → List MenuEntry
entries_for [] targets = []
entries_for (mapped ∷ sections) [] = []
entries_for (mapped ∷ sections) (target ∷ targets) =
    map (menu_entry mapped.section target) (names_of_section mapped.section) ++ entries_for sections targets

abbrev pub IsOtherName : List ℕ → List (List ℕ) → Type 0
IsOtherName name [] = Unit {0}
IsOtherName name (other ∷ others) = (bytes_eq name other ≡ false) × IsOtherName name others

-- names that are names, and no two the same
abbrev pub AreNames : List (List ℕ) → Type 0
AreNames [] = Unit {0}
AreNames (name ∷ names) = IsName name × IsOtherName name names × AreNames names

-- a planned map lies at its places, with its boot sector, and the files where they are mapped from
pub record MapLies (image : Image) (machine : Machine) (span : Span) (plan : Plan) (menu : Menu)
    (targets : List Target) (line : DefaultLine) (places : MapPlaces) (present : List ℕ) : Type 0 where
  pub boot : image span.disk span.start ≡ plan_boot_sector plan machine (all_places places) present
  pub present_long : length (part_of present 440 70) ≡ 70
  pub code_long : length plan.code ≤ 512
  pub line_is : line_at (bytes_at image places.line) ≡ Ok line
  pub lies : AreAt image (after_line places) (drop 1 (plan_sectors plan machine (all_places places)))
  pub named : AreNamed machine (slot_to plan.config.mode machine) (all_places places)
  pub apart : IsNone places.line (after_line places)
  pub time : plan.time < 2 ^ 32
  pub delay : plan.config.delay < 0xFFFF
  pub timeout : IfSome plan.config.timeout (λ tenths. tenths < 0xFFFF)
  pub names : AreNames (plan_names plan)
  pub some_name : 1 ≤ length (plan_names plan)
  pub few_names : length (plan_names plan) ≤ 19
  pub default : default_place plan.config.default_name (plan_names plan) < length (plan_names plan)
  pub message_few : IfSome menu.message (λ bytes. length bytes ≤ 65535)
  pub message : OptionalLies image machine plan.config places.line places.zero_place plan.message menu.message
  pub targets_lie : TargetsLie image machine plan.config places.line places.zero_place plan.sections targets
  pub entries : menu.entries ≡ entries_for plan.sections targets
  pub prompt_is : menu.settings
      ≡ record {
        prompt = plan.config.prompt;
        delay = plan.config.delay;
        timeout = plan.config.timeout;
        default_entry = default_place plan.config.default_name (plan_names plan);
        capacity = line_capacity;
      }

-- it boots as the menu says
abbrev pub MapLaw : Type 0
MapLaw =
    (image : Image) (machine : Machine) (span : Span) (plan : Plan) (menu : Menu) (targets : List Target)
    (line : DefaultLine) (places : MapPlaces) (present : List ℕ) (keys : List Key) (memory : ℕ)
    → MapLies image machine span plan menu targets line places present
    → whole_boot image machine span keys memory ≡ menu_boot menu line keys memory
