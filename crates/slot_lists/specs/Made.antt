-- The slots of a list of sectors.
use Rattle.std.specs.Prelude.{◌≡◌, List, map, Result, Ok, Err}
use Rattle.lilo_model.specs.Checks.{◌>>=◌, each}
use Rattle.lilo_model.specs.Disks as disks
use Rattle.lilo_model.specs.Disks.{Geometry, Machine}
use Rattle.lilo_model.specs.Slots as slots
use Rattle.lilo_model.specs.Slots.{Mode, slot_make}
use Rattle.lilo_model.specs.Plan.{compact_slots}
use Rattle.sector_address.specs.declared.slot.Slot.{Slot}
use Rattle.sector_address.specs.View.{slot_view, address_fault_view}
use Rattle.sector_address.specs.Whole.{IsSlot}
use Rattle.slot_lists.specs.declared.slots.DiskSector.{DiskSector}
use Rattle.slot_lists.specs.declared.slots.CompactFault.{CompactFault}
use Rattle.slot_lists.specs.declared.slots.CompactFault.TheVariants.{Address, Memory}

-- a sector of a disk
abbrev pub place_view : DiskSector → disks.DiskSector
place_view place = record { disk = place.disk; sector = place.sector }

-- a slot that eight bytes can name
abbrev pub IsWritable : Slot → Type 0
IsWritable slot = IsSlot (slot_view slot)

-- a machine whose disks all have a geometry
abbrev pub one_geometry : Geometry → Machine
one_geometry geometry = record { size_of = λ disk. 0; geometry_of = λ disk. geometry }

-- a slot for each sector, or the first refusal
abbrev pub made_slots : Mode → Geometry → List disks.DiskSector → Result (List slots.Slot) slots.AddressFault
made_slots mode geometry places = each (map (λ place. slot_make mode geometry place.disk place.sector 1) places)

-- whether something is made
abbrev pub is_made : {A F : Type 0} → Result A F → Result (Unit {0}) F
is_made made = made >>= λ value. Ok tt

-- each sector has a slot, or the first refusal
abbrev pub places_check : Mode → Geometry → List disks.DiskSector → Result (Unit {0}) slots.AddressFault
places_check mode geometry places = is_made (made_slots mode geometry places)

-- slots of which no two neighbours could be one, or the first refusal
abbrev pub compact_made : Mode → Geometry → List disks.DiskSector → Result (List slots.Slot) slots.AddressFault
compact_made mode geometry places =
    made_slots mode geometry places >>= λ made. Ok (compact_slots (one_geometry geometry) made)

-- a fault is the first refusal, unless memory ends
abbrev pub IsFaultOf : Result (List slots.Slot) slots.AddressFault → CompactFault → Type 0
IsFaultOf made (Address fault) = made ≡ Err (address_fault_view fault)
IsFaultOf made Memory = Unit {0}
