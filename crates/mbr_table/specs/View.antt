-- Which plain value of the model each value of this crate stands for.
use Rattle.std.specs.Prelude.{List, map}
use Rattle.disk_trait.specs.declared.disks.Span.{Span}
use Rattle.lilo_model.specs.Devices as devices
use Rattle.lilo_model.specs.Disks as disks
use Rattle.lilo_model.specs.Partitions as model
use Rattle.mbr_table.specs.declared.device.Device.{Device}
use Rattle.mbr_table.specs.declared.partition.Partition.{Partition}
use Rattle.mbr_table.specs.declared.table.Entry.{Entry}
use Rattle.mbr_table.specs.declared.table.Table4.{Table4}
use Rattle.mbr_table.specs.declared.table_fault.TableFault.{TableFault}
use Rattle.mbr_table.specs.declared.table_fault.TableFault.TheVariants as faults

-- a device
abbrev pub device_view : Device → devices.Device
device_view device = record { disk = device.disk; partition = device.partition }

-- an entry
abbrev pub entry_view : Entry → model.Entry
entry_view entry = record { status = entry.status; kind = entry.kind; start = entry.start; count = entry.count }

-- a table
abbrev pub table_view : Table4 → List model.Entry
table_view table = map entry_view table.entries

-- neighbouring sectors
abbrev pub span_view : Span → disks.Span
span_view span = record { disk = span.disk; start = span.start; count = span.count }

-- a partition
abbrev pub partition_view : Partition → model.Partition
partition_view partition =
    record { number = partition.number; kind = partition.kind; span = span_view partition.span }

-- some partitions
abbrev pub partitions_view : List Partition → List model.Partition
partitions_view partitions = map partition_view partitions

-- a refusal
abbrev pub table_fault_view : TableFault → model.TableFault
table_fault_view (faults.NoSignature sector) = model.NoSignature sector
table_fault_view (faults.OutsideDisk number) = model.OutsideDisk number
table_fault_view (faults.LoopedChain sector) = model.LoopedChain sector
table_fault_view faults.TooMany = model.TooMany
table_fault_view faults.UnknownDevice = model.UnknownDevice
table_fault_view (faults.NoPartition number) = model.NoPartition number
table_fault_view (faults.NoDisk disk) = model.NoDisk disk
table_fault_view faults.Device = model.Device
