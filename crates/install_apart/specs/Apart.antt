-- When an answer is the model's verdict on what is apart, and its verdict on devices by parts.
use Rattle.std.specs.Prelude.{◌≡◌, ℕ, Bool, true, false, Option, Result, Ok, Err}
use Rattle.std.specs.List.{list_all}
use Rattle.disk_trait.specs.declared.disks.Disks.{Ghosts}
use Rattle.sector_address.specs.Machine.{machine_with}
use Rattle.lilo_model.specs.Apart.{is_apart_device, other_devices, table_devices}
use Rattle.lilo_model.specs.Checks.{◌>>=◌, require}
use Rattle.lilo_model.specs.Conf.{Config, ConfSection}
use Rattle.lilo_model.specs.ConfOptions as options
use Rattle.lilo_model.specs.ConfOptions.{Opt}
use Rattle.lilo_model.specs.Devices.{Device}
use Rattle.lilo_model.specs.Disks.{Image, Machine}
use Rattle.lilo_model.specs.Faults.{Rose}
use Rattle.lilo_model.specs.MinixParts as model
use Rattle.lilo_model.specs.PlanRefusal.{if_there}
use Rattle.conf_settings.specs.declared.option.Opt as settings
use Rattle.conf_settings.specs.View.{opt_view}
use Rattle.mbr_table.specs.declared.table_fault.TableFault.{TableFault}
use Rattle.mbr_table.specs.declared.table_fault.TableFault.TheVariants as tables
use Rattle.minix_zones.specs.declared.volume.Volume.{Volume}
use Rattle.minix_zones.specs.declared.zone_fault.ZoneFault.TheVariants as zones
use Rattle.minix_zones.specs.Volume.{sizes_of, geometries_of}
use Rattle.minix_tree.specs.declared.tree_fault.TreeFault.{TreeFault}
use Rattle.minix_tree.specs.declared.tree_fault.TreeFault.TheVariants as trees
use Rattle.install_apart.specs.declared.apart_device.DevicePart.{DevicePart}
use Rattle.install_apart.specs.declared.apart_device.DevicePart.TheVariants as parts
use Rattle.install_apart.specs.declared.fault.ApartFault.{ApartFault}
use Rattle.install_apart.specs.declared.fault.ApartFault.TheVariants as faults

-- the machine of the disks that a volume holds
abbrev pub machine_by : {D : Type 0} {disks : Ghosts D} → Volume D disks → Machine
machine_by volume = machine_with (sizes_of volume) (geometries_of volume)

-- all is apart, or this is the first option that isn't, unless the disk failed or memory ended
abbrev pub GivesApart : Result (Unit {0}) ApartFault → Result (Unit {0}) Opt → Type 0
GivesApart (Ok done) given = given ≡ Ok tt
GivesApart (Err (faults.NotApart opt)) given = given ≡ Err (opt_view opt)
GivesApart (Err faults.Device) given = Unit {0}
GivesApart (Err faults.Memory) given = Unit {0}

-- the cause of a refusal: where the disk failed, the count of faults rose
abbrev pub HasApartCause : ℕ → ℕ → ApartFault → Type 0
HasApartCause before now (faults.NotApart opt) = Unit {0}
HasApartCause before now faults.Device = Rose before now
HasApartCause before now faults.Memory = Unit {0}

-- accepted, or refused for what an option names
abbrev pub judged : Bool → settings.Opt → Result (Unit {0}) ApartFault
judged true opt = Ok tt
judged false opt = Err (faults.NotApart opt)

-- what leads nowhere is apart, unless the disk failed or memory ended
abbrev pub unless_stopped : TreeFault → Result (Unit {0}) ApartFault
unless_stopped (trees.NotFound position) = Ok tt
unless_stopped (trees.NotDirectory position) = Ok tt
unless_stopped trees.NotFile = Ok tt
unless_stopped trees.TooManyLinks = Ok tt
unless_stopped (trees.BadEntry directory) = Ok tt
unless_stopped trees.PathTooLong = Ok tt
unless_stopped (trees.Zone (zones.Layout fault)) = Ok tt
unless_stopped (trees.Zone (zones.ZoneOutside zone)) = Ok tt
unless_stopped (trees.Zone zones.Device) = Err faults.Device
unless_stopped trees.Memory = Err faults.Memory

-- ---- devices

-- a device without a place is apart, unless the disk failed
abbrev pub unless_failed : TableFault → Result (Unit {0}) ApartFault
unless_failed tables.Device = Err faults.Device
unless_failed (tables.NoSignature sector) = Ok tt
unless_failed (tables.OutsideDisk number) = Ok tt
unless_failed (tables.LoopedChain sector) = Ok tt
unless_failed tables.TooMany = Ok tt
unless_failed tables.UnknownDevice = Ok tt
unless_failed (tables.NoPartition number) = Ok tt
unless_failed (tables.NoDisk disk) = Ok tt

-- the device that a part of a section names, if it is there, and the option that names it
abbrev pub part_device : DevicePart → ConfSection → Option Device
part_device parts.Other section = section.other
part_device parts.Table section = section.table

abbrev pub device_option : DevicePart → Opt
device_option parts.Other = options.OtherDevice
device_option parts.Table = options.Table

-- whether it is apart from a volume
abbrev pub device_check : Image → Machine → model.Volume → DevicePart → ConfSection → Result (Unit {0}) Opt
device_check image machine volume part section =
    if_there (λ device. require (is_apart_device image machine volume device) (device_option part)) (part_device part section)

-- the model's checks of devices: the first three of its `apart_checks`
unfoldable pub device_checks : Image → Machine → model.Volume → Config → Device → Result (Unit {0}) Opt
device_checks image machine volume config boot = do
  a ← require (is_apart_device image machine volume boot) options.Boot
  b ← require (list_all (is_apart_device image machine volume) (other_devices config)) options.OtherDevice
  require (list_all (is_apart_device image machine volume) (table_devices config)) options.Table
