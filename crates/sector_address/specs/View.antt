-- Which plain value of the model each value of this crate stands for.
use Rattle.lilo_model.specs.Disks as disks
use Rattle.lilo_model.specs.Slots as model
use Rattle.disk_trait.specs.declared.geometry.Geometry.{Geometry}
use Rattle.sector_address.specs.declared.slot.Chs.{Chs}
use Rattle.sector_address.specs.declared.slot.Address.{Address}
use Rattle.sector_address.specs.declared.slot.Address.TheVariants as addresses
use Rattle.sector_address.specs.declared.slot.Mode.{Mode}
use Rattle.sector_address.specs.declared.slot.Mode.TheVariants as modes
use Rattle.sector_address.specs.declared.slot.Slot.{Slot}
use Rattle.sector_address.specs.declared.slot.AddressFault.{AddressFault}
use Rattle.sector_address.specs.declared.slot.AddressFault.TheVariants as faults

-- the geometry of a disk
abbrev pub geometry_view : Geometry → disks.Geometry
geometry_view geometry = record { heads = geometry.heads; sectors = geometry.sectors }

-- an address by cylinder, head and sector
abbrev pub chs_view : Chs → model.Address
chs_view at = model.Chs at.cylinder at.head at.sector

-- an address
abbrev pub address_view : Address → model.Address
address_view (addresses.Chs at) = chs_view at
address_view (addresses.Linear number) = model.Linear number
address_view (addresses.Lba32 number) = model.Lba32 number

-- how a slot is to say where its sectors are
abbrev pub mode_view : Mode → model.Mode
mode_view modes.Chs = model.ChsMode
mode_view modes.Linear = model.LinearMode
mode_view modes.Lba32 = model.Lba32Mode

-- a slot
abbrev pub slot_view : Slot → model.Slot
slot_view slot = record { disk = slot.disk; count = slot.count; address = address_view slot.address }

-- a refusal
abbrev pub address_fault_view : AddressFault → model.AddressFault
address_fault_view (faults.Cylinder cylinder) = model.Cylinder cylinder
address_fault_view (faults.TooFar sector) = model.TooFar sector
address_fault_view faults.BadSlot = model.BadSlot
address_fault_view faults.NotFound = model.NotFound
