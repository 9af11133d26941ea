-- What disks in memory are: what they held at first, what was done since, and which calls fail.
use Rattle.std.specs.Prelude.{◌≡◌, ◌^◌, All, ⊤, ◌&&◌, ◌==◌, ◌<◌, ◌≤◌, ℕ, Bool, false, nat_lt, List, [], ◌∷◌, length, map, find, replicate, slice_index_or}
use Rattle.std.specs.Prelude.{Option, Some, Result, Ok, Err, if◌then◌else◌}
use Rattle.std.specs.Option.{option_map_or}
use Rattle.std.specs.VecDeque.{deque_len, deque_capacity}
use Rattle.std.specs.declared.collections.VecDeque.{VecDeque}
use Rattle.std.specs.declared.alloc.Global.{Global}
use Rattle.disk_trait.specs.declared.geometry.Geometry.{Geometry}
use Rattle.disk_trait.specs.declared.event.Event.{Event}
use Rattle.disk_trait.specs.declared.event.Event.TheVariants.{Write, Flush}
use Rattle.disk_trait.specs.declared.disks.DiskFault.{DiskFault}
use Rattle.disk_trait.specs.declared.disks.DiskFault.TheVariants.{Failed, OutOfRange}
use Rattle.disk_trait.specs.declared.mem_disk.MemDisk.{MemDisk}
use Rattle.disk_trait.specs.declared.mem_disk.Failing.{Failing}
use Rattle.disk_trait.specs.Count.{risen}
use Rattle.disk_trait.specs.Past.{Image, Past, now_after}
use Rattle.disk_trait.specs.Absent.{absent_geometry}

-- a disk as it was at first: the bytes of each sector, and how it is divided
pub record StartDisk : Type 0 where
  pub sectors : List (List ℕ)
  pub geometry : Geometry

-- a disk that isn't there
abbrev pub absent_disk : StartDisk
absent_disk = record { sectors = []; geometry = absent_geometry }

-- 512 zero bytes
unfoldable pub zero_sector : List ℕ
zero_sector = replicate 512 0

-- a disk of zero bytes
abbrev pub zero_disk : MemDisk → StartDisk
zero_disk disk = record { sectors = replicate disk.sectors zero_sector; geometry = disk.geometry }

-- the disk of a number
abbrev pub disk_at : List StartDisk → ℕ → StartDisk
disk_at disks disk = slice_index_or disks disk absent_disk

-- how many sectors each disk has
abbrev pub sizes_of : List StartDisk → ℕ → ℕ
sizes_of disks disk = length (disk_at disks disk).sectors

-- how each disk is divided
abbrev pub geometries_of : List StartDisk → ℕ → Geometry
geometries_of disks disk = (disk_at disks disk).geometry

-- the bytes of each sector, zeros where there is none
abbrev pub image_of : List StartDisk → Image
image_of disks disk sector = slice_index_or (disk_at disks disk).sectors sector zero_sector

-- disks in memory
pub record MemState : Type 0 where
  -- the disks as they were at first
  pub start : List StartDisk
  -- each write that was made and each flush since, the newest first
  pub events : List Event
  -- how many events they have room for
  pub room : ℕ
  -- the calls that fail
  pub failing : List Failing
  -- how many calls in range there were
  pub calls : ℕ
  -- how many of them failed
  pub faults : ℕ

-- disks with no event yet
abbrev pub fresh_state : List StartDisk → ℕ → List Failing → MemState
fresh_state start room failing = record {
  start = start;
  events = [];
  room = room;
  failing = failing;
  calls = 0;
  faults = 0;
}

-- disks of zero bytes, and no event yet
abbrev pub zero_state : List MemDisk → ℕ → List Failing → MemState
zero_state disks room failing = fresh_state (map zero_disk disks) room failing

-- what they held at first, and all that was done since
abbrev pub past_in : MemState → Past
past_in disks = record { start = image_of disks.start; events = disks.events }

-- their past, which is known
abbrev pub past_of : MemState → Option Past
past_of disks = Some (past_in disks)

-- the bytes of each sector now
abbrev pub now_in : MemState → Image
now_in disks = now_after (image_of disks.start) disks.events

-- each of these sectors has 512 bytes
abbrev pub HasWholeSectors : Image → Type 0
HasWholeSectors image = (disk sector : ℕ) → length (image disk sector) ≡ 512

-- what an event writes is 512 bytes
abbrev pub WritesWholeSector : Event → Type 0
WritesWholeSector (Write _ _ bytes) = length bytes ≡ 512
WritesWholeSector Flush = ⊤

-- an event writes to no sector but one that is there
abbrev pub IsInRange : (ℕ → ℕ) → Event → Type 0
IsInRange size_of (Write disk sector _) = sector < size_of disk
IsInRange size_of Flush = ⊤

-- there are few disks, the events have room and write to sectors that are there, and each sector has 512 bytes
pub record IsHeld (start : List StartDisk) (events : VecDeque Event Global) (room : ℕ) : Type 0 where
  pub few : length start ≤ 4
  pub room_small : room < 2 ^ 32
  pub within : deque_len events ≤ room
  pub capacity : room ≤ deque_capacity events
  pub start_whole : HasWholeSectors (image_of start)
  pub events_whole : All WritesWholeSector events.items
  pub events_in_range : All (IsInRange (sizes_of start)) events.items

-- what the list of failing calls says of the next call
abbrev pub planned : MemState → Option Failing
planned disks = find (λ failing. failing.call == disks.calls) disks.failing

-- there is no room for another event
abbrev pub IsFull : MemState → Type 0
IsFull disks = disks.room ≤ length disks.events

-- a call in range was made
abbrev pub counted : MemState → MemState
counted disks = record disks { calls = risen disks.calls }

-- an event was added
abbrev pub with_event : Event → MemState → MemState
with_event event disks = record disks { events = event ∷ disks.events }

-- a call in range failed
abbrev pub failed : MemState → MemState
failed disks = record (counted disks) { faults = risen disks.faults }

-- what a read that answered so left
abbrev pub after_read : MemState → Result (Unit {0}) DiskFault → MemState
after_read disks (Ok _) = counted disks
after_read disks (Err Failed) = failed disks
after_read disks (Err OutOfRange) = disks

-- what a flush that answered so left
abbrev pub after_flush : MemState → Result (Unit {0}) DiskFault → MemState
after_flush disks (Ok _) = with_event Flush (counted disks)
after_flush disks (Err Failed) = failed disks
after_flush disks (Err OutOfRange) = disks

-- a write that the list of failing calls lets fail is made all the same
abbrev pub is_made : MemState → Bool
is_made disks = nat_lt (length disks.events) disks.room
    && option_map_or (λ failing. failing.made) (planned disks) false

-- what a write that answered so left
abbrev pub after_write : MemState → ℕ → ℕ → List ℕ → Result (Unit {0}) DiskFault → MemState
after_write disks disk sector bytes (Ok _) = with_event (Write disk sector bytes) (counted disks)
after_write disks disk sector bytes (Err Failed) = if is_made disks
    then with_event (Write disk sector bytes) (failed disks)
    else failed disks
after_write disks disk sector bytes (Err OutOfRange) = disks
