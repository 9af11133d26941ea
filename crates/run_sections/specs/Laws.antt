-- What is made of a file's sectors is what the model plans, section sector by section sector.
use Rattle.std.specs.Prelude.{◌≡◌, ◌<◌, ℕ, ◌+◌, ◌-◌, ◌*◌, List, [], take, drop, slice_index_or, Ok}
use Rattle.std.specs.List.{AllByRecursion}
use Rattle.lilo_model.specs.Disks.{DiskSector, Geometry, Machine}
use Rattle.lilo_model.specs.Slots.{Slot}
use Rattle.lilo_model.specs.Section.{section_bytes}
use Rattle.lilo_model.specs.Conf.{Config}
use Rattle.lilo_model.specs.Plan.{MappedFile, filled_places, slot_to, file_slots, chain_for, link_to, file_sectors}
use Rattle.run_sections.specs.Made.{slots_made}

-- where all sectors of a file lie on disks of one geometry, and each has a slot
pub record HasSlots (config : Config) (machine : Machine) (geometry : Geometry) (zero_place : DiskSector) (file : MappedFile) (slots : List Slot) : Type 0 where
  pub on : AllByRecursion (λ place. machine.geometry_of place.disk ≡ geometry) (filled_places zero_place file.places)
  pub made : slots_made config.mode geometry config.compact (filled_places zero_place file.places) ≡ Ok slots

-- its slots are those that are planned
abbrev pub FileSlotsLaw : Type 0
FileSlotsLaw =
    (config : Config) (machine : Machine) (geometry : Geometry) (zero_place : DiskSector) (file : MappedFile) (slots : List Slot)
    → HasSlots config machine geometry zero_place file slots → file_slots config machine zero_place file ≡ slots

-- a section sector of it has 63 of them, and a link to the next one, if there is one
abbrev pub FileSectorLaw : Type 0
FileSectorLaw =
    (config : Config) (machine : Machine) (geometry : Geometry) (zero_place : DiskSector) (file : MappedFile) (slots : List Slot)
    (places : List DiskSector) (index : ℕ)
    → HasSlots config machine geometry zero_place file slots → index < chain_for config machine file
    → slice_index_or (file_sectors config machine zero_place file places) index []
    ≡ section_bytes (take 63 (drop (63 * index) slots))
    (link_to (slot_to config.mode machine) (chain_for config machine file - 1 - index) (drop (index + 1) places))
