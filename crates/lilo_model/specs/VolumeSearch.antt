-- Where a run's volume lies: on the device that is named for it, or else on the first device whose block 1 has a
-- magic number of a Minix superblock. (The magic numbers: Minix file system. What is searched, and in which order, is
-- this project's own.)
use Rattle.std.specs.Prelude.{ℕ, zero, ◌+◌, ◌==◌, nat_le, Bool, true, ◌&&◌, if◌then◌else◌, List, [], ◌∷◌, map, flat_map, filter, find, is_some, Option, None}
use Rattle.std.specs.Prelude.{Some, Result, Ok, Err}
use Rattle.lilo_model.specs.Bytes.{number16}
use Rattle.lilo_model.specs.Checks.{◌>>=◌, require, with_fault}
use Rattle.lilo_model.specs.Devices.{Device, last_partition}
use Rattle.lilo_model.specs.Disks.{Image, Machine, Span}
use Rattle.lilo_model.specs.MinixLayout.{kind_of, super_sector}
use Rattle.lilo_model.specs.Partitions.{Partition, TableFault, NoSignature, device_fault, partitions_of, span_of, whole_span}
use Rattle.lilo_model.specs.Refusal.{DeviceFault}

-- a device, and where it lies
pub record Located : Type 0 where
  pub device : Device
  pub span : Span

-- why there is no volume
pub data VolumeFault : Type 0 where
  -- no device has one, or the one that is named has no room for one
  NoVolume : VolumeFault
  -- the device isn't found, or a table of partitions that would be searched is refused
  Place : DeviceFault → VolumeFault

-- the fewest sectors in which block 1 lies whole
abbrev pub volume_least : ℕ
volume_least = 4

-- whether the first sector of a block 1 has a magic number of a superblock
unfoldable pub has_magic : List ℕ → Bool
has_magic bytes = is_some (kind_of (number16 bytes 16))

-- whether a volume begins where a device lies
unfoldable pub holds_volume : Image → Span → Bool
holds_volume image span = nat_le volume_least span.count && has_magic (image span.disk (span.start + super_sector))

-- a disk as a whole
abbrev pub whole_disk : Machine → ℕ → Located
whole_disk machine disk =
    record { device = record { disk = disk; partition = 0 }; span = whole_span machine disk }

-- a partition of a disk
abbrev pub located_partition : ℕ → Partition → Located
located_partition disk partition =
    record { device = record { disk = disk; partition = partition.number }; span = partition.span }

-- whether a partition of a disk has a name
abbrev pub has_name : ℕ → Partition → Bool
has_name disk partition = nat_le partition.number (last_partition disk)

-- what is searched of a disk's partitions: those that have a name, in order of number. A disk whose sector 0 is no
-- table has none here, and a table that is refused otherwise ends the search.
unfoldable pub searched_partitions : ℕ → Result (List Partition) TableFault → List (Result Located DeviceFault)
searched_partitions disk (Ok partitions) =
    map (λ partition. Ok (located_partition disk partition)) (filter (has_name disk) partitions)
searched_partitions disk (Err (NoSignature zero)) = []
searched_partitions disk (Err fault) = Err (device_fault fault) ∷ []

-- what is searched of a disk: first the disk as a whole
unfoldable pub searched_on : Image → Machine → ℕ → List (Result Located DeviceFault)
searched_on image machine disk =
    if machine.size_of disk == 0 then [] else
    (Ok (whole_disk machine disk) ∷ searched_partitions disk (partitions_of image machine disk))

-- what is searched of some disks
abbrev pub searched : Image → Machine → List ℕ → List (Result Located DeviceFault)
searched image machine disks = flat_map (searched_on image machine) disks

-- whether the search ends at a place
unfoldable pub ends_search : Image → Result Located DeviceFault → Bool
ends_search image (Ok place) = holds_volume image place.span
ends_search image (Err fault) = true

-- where the search ends
abbrev pub search_end : Option (Result Located DeviceFault) → Result Located VolumeFault
search_end None = Err NoVolume
search_end (Some place) = with_fault Place place

-- the first device that has a volume
unfoldable pub first_volume : Image → Machine → Result Located VolumeFault
first_volume image machine =
    search_end (find (ends_search image) (searched image machine (0 ∷ 1 ∷ 2 ∷ 3 ∷ [])))

-- the device of a name, where it has room for a volume
unfoldable pub named_volume : Image → Machine → Device → Result Located VolumeFault
named_volume image machine device = do
  span ← with_fault (λ fault. Place (device_fault fault)) (span_of image machine device)
  room ← require (nat_le volume_least span.count) NoVolume
  Ok (record { device = device; span = span })

-- where the volume lies: on the device that is named, or else on the first that has one
unfoldable pub volume_place : Image → Machine → Option Device → Result Located VolumeFault
volume_place image machine (Some device) = named_volume image machine device
volume_place image machine None = first_volume image machine
