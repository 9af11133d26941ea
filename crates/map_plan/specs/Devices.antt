-- How the devices of another system are mapped, or why they aren't found.
use Rattle.std.specs.Prelude.{◌≡◌, ◌≤◌, ◌<◌, ◌*◌, ℕ, List, [], ◌∷◌, length, IfSome, Option, Some, None, Result, Ok}
use Rattle.std.specs.Option.{option_map}
use Rattle.lilo_model.specs.Checks.{◌>>=◌, with_fault}
use Rattle.lilo_model.specs.Disks as disks
use Rattle.lilo_model.specs.Disks.{Image, Machine}
use Rattle.lilo_model.specs.Devices as devices
use Rattle.lilo_model.specs.Partitions.{span_of}
use Rattle.lilo_model.specs.Conf.{ConfSection}
use Rattle.lilo_model.specs.Plan.{MappedFile, MappedSection}
use Rattle.lilo_model.specs.Planned.{mapped_by}
use Rattle.lilo_model.specs.MinixParts as parts
use Rattle.lilo_model.specs.PlanRefusal.{PlanFault, Table, device_check, if_there}
use Rattle.mbr_table.specs.declared.device.Device.{Device}
use Rattle.slot_lists.specs.declared.slots.DiskSector.{DiskSector}
use Rattle.slot_lists.specs.Made.{place_view}
use Rattle.map_plan.specs.declared.device.SystemSectors.{SystemSectors}
use Rattle.map_plan.specs.Files.{passed}

-- the first sector of a device, or why it isn't found
abbrev pub device_planned : Image → Machine → devices.Device → Result disks.DiskSector PlanFault
device_planned image machine device =
    with_fault Table (span_of image machine device) >>= λ span. Ok (record { disk = span.disk; sector = span.start })

-- the same of a device that may be absent
abbrev pub table_planned : Image → Machine → Option devices.Device → Result (Option disks.DiskSector) PlanFault
table_planned image machine None = Ok None
table_planned image machine (Some device) = device_planned image machine device >>= λ place. Ok (Some place)

-- the sectors of another system, as a map lists them
abbrev pub places_with : disks.DiskSector → Option disks.DiskSector → List (Option disks.DiskSector)
places_with first None = Some first ∷ []
places_with first (Some table) = Some first ∷ (Some table ∷ [])

-- those of its device and of the table's, or the first refusal
unfoldable pub system_planned : Image → Machine → devices.Device → Option devices.Device → Result (List (Option disks.DiskSector)) PlanFault
system_planned image machine device table =
    device_planned image machine device >>= λ first. table_planned image machine table >>= λ table. Ok (places_with first table)

-- their bytes and where they lie
abbrev pub system_file : List (Option disks.DiskSector) → MappedFile
system_file places = record { size = 512 * length places; places = places }

-- ---- these are the model's

-- another system's section with these sectors
abbrev pub system_section : ConfSection → List (Option disks.DiskSector) → List MappedSection
system_section section places =
    record { section = section; main = system_file places; initrd = None } ∷ []

-- what is refused of another system is what is checked of it, and what is found is what is mapped
pub record IsSystemPlan (image : Image) (machine : Machine) (volume : parts.Volume) (section : ConfSection) (device : devices.Device) : Type 0 where
  pub check :
      (device_check image machine device >>= λ a. if_there (device_check image machine) section.table)
      ≡ passed (system_planned image machine device section.table)
  pub mapped : (places : List (Option disks.DiskSector)) → system_planned image machine device section.table ≡ Ok places
      → mapped_by image machine volume section (Some device) ≡ system_section section places

abbrev pub SystemPlanLaw : Type 0
SystemPlanLaw =
    (image : Image) (machine : Machine) (volume : parts.Volume) (section : ConfSection) (device : devices.Device)
    → IsSystemPlan image machine volume section device

-- ---- what was read

-- the sectors of another system that were found
abbrev pub sectors_view : SystemSectors → List (Option disks.DiskSector)
sectors_view sectors = places_with (place_view sectors.first) (option_map place_view sectors.table)

-- a sector lies on a disk, where disks have these sizes
abbrev pub IsThereIn : (ℕ → ℕ) → DiskSector → Type 0
IsThereIn sizes place = place.sector < sizes place.disk

-- they lie on the disks 0 to 3
abbrev pub HasDisks : SystemSectors → Type 0
HasDisks sectors = (sectors.first.disk ≤ 3) × IfSome sectors.table (λ place. place.disk ≤ 3)

-- a device lies on one of the disks 0 to 3
abbrev pub IsOnFour : Device → Type 0
IsOnFour device = device.disk ≤ 3
