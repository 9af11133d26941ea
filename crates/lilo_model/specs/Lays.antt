-- Lays: the file that holds the map, and the boot sector, are what was planned, and each section lists the sectors of
-- its file (these formats are this project's own).
use Rattle.std.specs.Prelude.{◌≡◌, ◌<◌, ◌⊎◌, ℕ, zero, suc, ◌+◌, ◌*◌, ◌/◌, ◌%◌, Bool, true, false, List, [], ◌∷◌, ◌++◌, length, map, take, drop, slice_index_or}
use Rattle.std.specs.Prelude.{replicate, All, Option, Some, None, Result, Ok, Err}
use Rattle.lilo_model.specs.Bytes.{part_of, filled_bytes}
use Rattle.lilo_model.specs.Checks.{◌>>=◌, each}
use Rattle.lilo_model.specs.Boot.{slot_bytes_at}
use Rattle.lilo_model.specs.Disks.{Image, Machine, Span, DiskSector, bytes_at}
use Rattle.lilo_model.specs.Slots.{Slot, AddressFault, slot_at, place_at, could_be_one}
use Rattle.lilo_model.specs.Section.{SectionFault, slot_parts, link_at, file_listing}
use Rattle.lilo_model.specs.BootSector.{BootSector, boot_at}
use Rattle.lilo_model.specs.Table.{Descriptor, table_at}
use Rattle.lilo_model.specs.MinixLayout.{zone_sector}
use Rattle.lilo_model.specs.MinixParts.{Volume, parts_of, is_file}
use Rattle.lilo_model.specs.MinixNames.{reached, zone_number}
use Rattle.lilo_model.specs.Conf.{Config}
use Rattle.lilo_model.specs.ConfLawful.{names_of_section}
use Rattle.lilo_model.specs.Meant.{default_place}
use Rattle.lilo_model.specs.Plan.{MappedFile, MappedSection, Plan, filled_places, map_size, plan_names, plan_sectors}
use Rattle.lilo_model.specs.Planned.{inode_places}
use Rattle.lilo_model.specs.NamePlaces.{with_tilde}

-- ---- the slots of a section

-- the slots up to a zero one
abbrev pub slots_of : List (List ℕ) → List Slot
slots_of [] = []
slots_of (part ∷ parts) = taken (slot_at part) (slots_of parts)
  where
    taken : Result (Option Slot) AddressFault → List Slot → List Slot
    taken (Ok (Some slot)) others = slot ∷ others
    taken _ others = []

-- the slots along a link
abbrev pub slots_at_link : (Slot → List Slot) → Result (Option Slot) SectionFault → List Slot
slots_at_link follow (Ok (Some link)) = follow link
slots_at_link follow _ = []

-- the slots of a section sector, and those after it
abbrev pub slots_from : Image → (Slot → List Slot) → Result DiskSector AddressFault → List Slot
slots_from image follow (Ok place) =
    slots_of (slot_parts (bytes_at image place)) ++ slots_at_link follow (link_at 0 (bytes_at image place))
slots_from image follow (Err fault) = []

-- the slots along a chain of at most so many section sectors
abbrev pub chain_slots : Image → Machine → ℕ → Slot → List Slot
chain_slots image machine zero first = []
chain_slots image machine (suc more) first =
    slots_from image (chain_slots image machine more) (place_at machine first 0)

-- no two neighbours could be one
abbrev pub AreApart : Machine → List Slot → Type 0
AreApart machine [] = Unit {0}
AreApart machine (slot ∷ []) = Unit {0}
AreApart machine (slot ∷ (next ∷ others)) =
    (could_be_one (machine.geometry_of slot.disk) slot next ≡ false) × AreApart machine (next ∷ others)

-- slots as `compact` says: no two neighbours could be one, or each is one sector
abbrev pub AreAsSaid : Machine → Bool → List Slot → Type 0
AreAsSaid machine true slots = AreApart machine slots
AreAsSaid machine false slots = All (λ slot. slot.count ≡ 1) slots

-- a section lists the sectors of a file in order, and the zero sector where it has a hole
pub record LaysFile (image : Image) (machine : Machine) (config : Config) (zero_place : DiskSector)
    (file : MappedFile) (first : Slot) (size chain : ℕ) : Type 0 where
  pub size_is : size ≡ file.size
  pub listed : (file_listing image machine first size chain).places ≡ filled_places zero_place file.places
  pub whole : (file_listing image machine first size chain).refusal ≡ None
  pub slots : AreAsSaid machine config.compact (chain_slots image machine chain first)

-- the same of a file that may be absent
abbrev pub LaysOptional : Image → Machine → Config → DiskSector → Option MappedFile → Option Slot → ℕ → ℕ → Type 0
LaysOptional image machine config zero_place None slot size chain = slot ≡ None
LaysOptional image machine config zero_place (Some file) None size chain = ⊥
LaysOptional image machine config zero_place (Some file) (Some slot) size chain =
    LaysFile image machine config zero_place file slot size chain

-- an entry lays what is mapped for its section
pub record LaysEntry (image : Image) (machine : Machine) (config : Config) (zero_place : DiskSector)
    (mapped : MappedSection) (entry : Descriptor) : Type 0 where
  pub main : LaysFile image machine config zero_place mapped.main entry.first entry.main_length entry.chain
  pub initrd : LaysOptional image machine config zero_place mapped.initrd entry.initrd entry.initrd_length entry.initrd_chain

-- entries, each with the name and the files of its section
abbrev pub LaysNames : Image → Machine → Config → DiskSector → MappedSection → List (List ℕ) → List Descriptor → Type 0
LaysNames image machine config zero_place mapped [] [] = Unit {0}
LaysNames image machine config zero_place mapped [] (entry ∷ entries) = ⊥
LaysNames image machine config zero_place mapped (name ∷ names) [] = ⊥
LaysNames image machine config zero_place mapped (name ∷ names) (entry ∷ entries) =
    (entry.name ≡ name) × LaysEntry image machine config zero_place mapped entry
    × LaysNames image machine config zero_place mapped names entries

-- so for each section in order
abbrev pub LaysSections : Image → Machine → Config → DiskSector → List MappedSection → List Descriptor → Type 0
LaysSections image machine config zero_place [] entries = entries ≡ []
LaysSections image machine config zero_place (mapped ∷ others) entries =
    LaysNames image machine config zero_place mapped (names_of_section mapped.section)
    (take (length (names_of_section mapped.section)) entries)
    × LaysSections image machine config zero_place others (drop (length (names_of_section mapped.section)) entries)

-- ---- the map

-- sectors lie at the first of some places, in order
abbrev pub AreAt : Image → List DiskSector → List (List ℕ) → Type 0
AreAt image places [] = Unit {0}
AreAt image [] (bytes ∷ sectors) = ⊥
AreAt image (place ∷ places) (bytes ∷ sectors) = (bytes_at image place ≡ bytes) × AreAt image places sectors

-- a place is the one at an index among some
abbrev pub IsPlaceAt : List DiskSector → ℕ → Result DiskSector AddressFault → Type 0
IsPlaceAt places index place =
    (found : DiskSector) × (slice_index_or (map Some places) index None ≡ Some found) × (place ≡ Ok found)

-- the sector after the last of an odd number of sectors of a file, in the second half of its last zone
abbrev pub tail_place : Volume → Image → ℕ → ℕ → DiskSector
tail_place volume image number sectors = record {
  disk = volume.span.disk;
  sector =
      volume.span.start + (zone_sector (zone_number volume.layout (parts_of volume image) number (sectors / 2)) + 1);
}

-- Lays: what was planned is the map of an image, in the file at the path of `map` or at that with `~`; the boot sector
-- has what the one before had where a partition table is
pub record Lays (image : Image) (machine : Machine) (volume : Volume) (span : Span) (plan : Plan) (path : List (List ℕ)) (present : List ℕ) : Type 0 where
  pub boot : BootSector
  pub says : boot_at (image span.disk span.start) ≡ Ok boot
  -- the file that holds the map
  pub holder : ℕ
  pub leads : (reached volume.layout (parts_of volume image) path ≡ Some holder)
      ⊎ (reached volume.layout (parts_of volume image) (with_tilde path) ≡ Some holder)
  pub regular : is_file ((parts_of volume image).node holder) ≡ true
  -- it has no hole; its sectors but the default line's are those of the plan, in order, and zeros fill its last zone
  pub places : List DiskSector
  pub solid : inode_places volume (parts_of volume image) holder ≡ map Some places
  pub size_is : ((parts_of volume image).node holder).size ≡ 512 * map_size plan machine
  pub layout : AreAt image (drop 1 places) (drop 1 (plan_sectors plan machine places))
  pub odd : map_size plan machine % 2 ≡ 1 → bytes_at image (tail_place volume image holder (map_size plan machine)) ≡ replicate 512 0
  -- the boot sector names its first five
  pub line : IsPlaceAt places 0 (place_at machine boot.line 0)
  pub table : (index : ℕ) → index < 3 → IsPlaceAt places (1 + index) (place_at machine (slice_index_or boot.table index boot.line) 0)
  pub zero_place : DiskSector
  pub zero_is : (slice_index_or (map Some places) 4 None ≡ Some zero_place) × (place_at machine boot.zero_sector 0 ≡ Ok zero_place)
  pub zeros : bytes_at image zero_place ≡ replicate 512 0
  -- the sections of the message and of each entry list the sectors of their files
  pub message : LaysOptional image machine plan.config zero_place plan.message boot.message boot.message_length boot.message_chain
  pub entries : List Descriptor
  pub table_says : each (map (slot_bytes_at image machine) boot.table) >>= (λ sectors. Ok (table_at boot.names sectors)) ≡ Ok (Ok entries)
  pub default : boot.default_entry ≡ default_place plan.config.default_name (plan_names plan)
  pub files : LaysSections image machine plan.config zero_place plan.sections entries
  -- the code, and what stays of the sector that was there
  pub code : part_of (image span.disk span.start) 128 312 ≡ part_of (filled_bytes 512 plan.code) 128 312
  pub kept : part_of (image span.disk span.start) 440 70 ≡ part_of present 440 70
