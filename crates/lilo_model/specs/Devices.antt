-- Names and numbers of devices: those that Linux gives to the first two IDE and the first two SCSI disks, and to
-- their partitions.
use Rattle.std.specs.Prelude.{ℕ, ◌+◌, ◌≤◌, ◌==◌, nat_le, if◌then◌else◌, List, [], ◌++◌, map, flat_map, find, bytes_eq, codes, decimal, Option}
use Rattle.std.specs.List.{range_with_len}

-- a disk, or a partition of one
pub record Device : Type 0 where
  -- 0 and 1 are hda and hdb, 2 and 3 are sda and sdb
  pub disk : ℕ
  -- the number of the partition, or 0 for the whole disk
  pub partition : ℕ

-- the name of a whole disk
unfoldable pub disk_name : ℕ → List ℕ
disk_name disk =
    if disk == 0 then codes "/dev/hda" else
    if disk == 1 then codes "/dev/hdb" else
    if disk == 2 then codes "/dev/sda" else
    codes "/dev/sdb"

-- the last partition of a disk that has a name
unfoldable pub last_partition : ℕ → ℕ
last_partition disk = if nat_le disk 1 then 63 else 15

-- what comes after the disk's name: a partition's number, or nothing for the whole disk
unfoldable pub partition_name : ℕ → List ℕ
partition_name partition = if partition == 0 then [] else decimal partition

-- the name of a device
unfoldable pub device_name : Device → List ℕ
device_name device = disk_name device.disk ++ partition_name device.partition

-- the device is one of those that have a name
pub record IsDevice (device : Device) : Type 0 where
  pub disk : device.disk ≤ 3
  pub partition : device.partition ≤ last_partition device.disk

-- a disk as a whole, and its partitions that have a name
unfoldable pub devices_of : ℕ → List Device
devices_of disk =
    map (λ partition. record { disk = disk; partition = partition }) (range_with_len 0 (last_partition disk + 1))

-- all devices that have a name
unfoldable pub named_devices : List Device
named_devices = flat_map devices_of (range_with_len 0 4)

-- the device of a name
unfoldable pub device_at : List ℕ → Option Device
device_at name = find (λ device. bytes_eq name (device_name device)) named_devices

-- the number of a whole disk
unfoldable pub disk_number : ℕ → ℕ
disk_number disk =
    if disk == 0 then 0x300 else
    if disk == 1 then 0x340 else
    if disk == 2 then 0x800 else
    0x810

-- the number of a device
unfoldable pub device_number : Device → ℕ
device_number device = disk_number device.disk + device.partition
