-- What is known of disks over image files: how large they are, how they are divided, and what of them isn't durable.
use Rattle.std.specs.Prelude.{◌≡◌, ◌≢◌, ◌⊎◌, ℕ, ◌+◌, ◌-◌, ◌*◌, ◌<◌, ◌≤◌, ◌==◌, ◌&&◌, Bool, true, false, IsTrue}
use Rattle.std.specs.Prelude.{List, [], take, map, Option, Some, None, unwrap_or, option_map, slice_index_or}
use Rattle.std.specs.Io.KnownBytes.{Appends}
use Rattle.lilo_model.specs.Bytes.{part_of}
use Rattle.disk_trait.specs.declared.geometry.Geometry.{Geometry}
use Rattle.disk_trait.specs.Absent.{absent_geometry}

-- neighbouring sectors of a file that are held: the first one, how many, and their bytes
pub record HeldSectors : Type 0 where
  pub first : ℕ
  pub count : ℕ
  pub bytes : List ℕ

-- a sector is among them
abbrev pub IsHeld : HeldSectors → ℕ → Type 0
IsHeld held sector = (held.first ≤ sector) × (sector < held.first + held.count)

-- the bytes that are held of a sector
abbrev pub held_sector : HeldSectors → ℕ → List ℕ
held_sector held sector = part_of held.bytes ((sector - held.first) * 512) 512

-- a sector may be put among up to 64: none is held, or this one is, or it comes right after them
abbrev pub HasRoom : HeldSectors → ℕ → Type 0
HasRoom held sector =
    (held.count ≡ 0) ⊎ ((held.first ≤ sector) × (sector ≤ held.first + held.count) × (sector < held.first + 64))

-- a sector was put: it is held with these bytes, and besides it exactly what was, as it was
pub record IsPut (old : HeldSectors) (sector : ℕ) (bytes : List ℕ) (new : HeldSectors) : Type 0 where
  pub held : IsHeld new sector
  pub same : held_sector new sector ≡ bytes
  pub others : (other : ℕ) → other ≢ sector → IsHeld old other → IsHeld new other × (held_sector new other ≡ held_sector old other)
  pub only : (other : ℕ) → other ≢ sector → IsHeld new other → IsHeld old other

-- none is held any more
abbrev pub emptied : HeldSectors → HeldSectors
emptied held = record held { count = 0 }

-- what a file that was at a sector holds after these were written to their place, where that is known
abbrev pub IsWritten : HeldSectors → Option ℕ → Option (List ℕ) → Option (List ℕ) → Type 0
IsWritten held at old new = at ≡ Some held.first → Appends old new (take (held.count * 512) held.bytes)

-- the size of a disk in sectors, and how it is divided
pub record DiskShape : Type 0 where
  pub sectors : ℕ
  pub geometry : Geometry

-- A disk over a file: its shape, the sectors that were written and that the file doesn't have yet, and whether the file
-- is synced: its last sync, where there was one, answered Ok, and it was given no bytes since.
pub record DiskState : Type 0 where
  pub sectors : ℕ
  pub geometry : Geometry
  pub gathered : HeldSectors
  pub synced : Bool

-- what of a disk never changes
abbrev pub shape_of : DiskState → DiskShape
shape_of disk = record { sectors = disk.sectors; geometry = disk.geometry }

-- a disk that isn't there has no sectors, and nothing of it waits
abbrev pub absent_disk : DiskState
absent_disk = record {
  sectors = 0;
  geometry = absent_geometry;
  gathered = record { first = 0; count = 0; bytes = [] };
  synced = true;
}

-- a disk that is there or not
abbrev pub disk_of : Option DiskState → DiskState
disk_of disk = unwrap_or disk absent_disk

-- all that was written to a disk is durable, as far as its file tells: none of it waits, and the file is synced
abbrev pub IsDurable : DiskState → Type 0
IsDurable disk = (disk.gathered.count ≡ 0) × IsTrue disk.synced

-- a disk whose file was given a part of what is gathered, and keeps all of it gathered
abbrev pub touched : DiskState → DiskState
touched disk = record disk { synced = false }

-- a disk whose file was given all that was gathered, where anything was
abbrev pub written_out : DiskState → DiskState
written_out disk = record disk { gathered = emptied disk.gathered; synced = disk.synced && (disk.gathered.count == 0) }

-- a disk whose file was given all, and was synced then
abbrev pub made_durable : DiskState → DiskState
made_durable disk = record disk { gathered = emptied disk.gathered; synced = true }

-- Nothing was done with a disk but that its file may have been given what was gathered, all of it, or a part, and then
-- all stays gathered: so nothing that was written is lost, and nothing becomes durable.
abbrev pub HandsOn : DiskState → DiskState → Type 0
HandsOn old new = (new ≡ old) ⊎ (new ≡ touched old) ⊎ (new ≡ written_out old)

-- the same, or the file was given all, and then it was synced or failed to be
abbrev pub MaySync : DiskState → DiskState → Type 0
MaySync old new = (new ≡ old) ⊎ (new ≡ touched old) ⊎ (new ≡ touched (written_out old)) ⊎ (new ≡ made_durable old)

-- A sector was taken: beside those that were gathered where it has room there, or alone, once those came to the file. And
-- the file isn't synced by it.
pub record Takes (old : DiskState) (sector : ℕ) (bytes : List ℕ) (new : DiskState) : Type 0 where
  pub shape : shape_of new ≡ shape_of old
  pub near : HasRoom old.gathered sector → IsPut old.gathered sector bytes new.gathered
  pub far : (HasRoom old.gathered sector → ⊥) → IsPut (emptied old.gathered) sector bytes new.gathered
  pub synced : IsTrue new.synced → IsTrue old.synced

-- disks that are there or not, and how often one failed
pub record FileState : Type 0 where
  pub disks : List (Option DiskState)
  pub faults : ℕ

-- the disk of a number
abbrev pub disk_at : List (Option DiskState) → ℕ → DiskState
disk_at disks disk = disk_of (slice_index_or disks disk None)

-- which disks are there, and their shapes: what never changes
abbrev pub shapes_of : List (Option DiskState) → List (Option DiskShape)
shapes_of disks = map (option_map shape_of) disks

-- how many sectors each disk has
abbrev pub file_sizes_of : FileState → ℕ → ℕ
file_sizes_of files disk = (disk_at files.disks disk).sectors

-- how each disk is divided
abbrev pub file_geometries_of : FileState → ℕ → Geometry
file_geometries_of files disk = (disk_at files.disks disk).geometry

-- all that was written to any disk is durable
abbrev pub AreDurable : List (Option DiskState) → Type 0
AreDurable disks = (disk : ℕ) → IsDurable (disk_at disks disk)

-- nothing was done but with one of the disks
pub record IsOnlyAt (disk : ℕ) (old new : List (Option DiskState)) : Type 0 where
  pub shapes : shapes_of new ≡ shapes_of old
  pub others : (other : ℕ) → other ≢ disk → disk_at new other ≡ disk_at old other

-- they are those disks still, and with each nothing was done but that its file may have been given what was gathered
pub record AllHandOn (old new : List (Option DiskState)) : Type 0 where
  pub shapes : shapes_of new ≡ shapes_of old
  pub each : (disk : ℕ) → HandsOn (disk_at old disk) (disk_at new disk)

-- of each disk but one nothing waits any more
abbrev pub OthersWrittenOut : List (Option DiskState) → ℕ → List (Option DiskState) → Type 0
OthersWrittenOut old disk new = (other : ℕ) → other ≢ disk → disk_at new other ≡ written_out (disk_at old other)

-- of no disk anything waits any more
abbrev pub AllWrittenOut : List (Option DiskState) → List (Option DiskState) → Type 0
AllWrittenOut old new = (disk : ℕ) → disk_at new disk ≡ written_out (disk_at old disk)

-- a write was taken, after all that the other disks had gathered
pub record WriteTaken (old : List (Option DiskState)) (disk sector : ℕ) (bytes : List ℕ) (new : List (Option DiskState)) : Type 0 where
  pub shapes : shapes_of new ≡ shapes_of old
  pub taken : Takes (disk_at old disk) sector bytes (disk_at new disk)
  pub others : OthersWrittenOut old disk new

-- they are those disks still, and each was synced or failed to be
pub record AllMaySync (old new : List (Option DiskState)) : Type 0 where
  pub shapes : shapes_of new ≡ shapes_of old
  pub each : (disk : ℕ) → MaySync (disk_at old disk) (disk_at new disk)
