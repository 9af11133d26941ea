-- Disks with one sector changed.
use Rattle.std.proofs.Common.{◌≡◌, ℕ, ◌<◌, ◌==◌, zero, suc, List, [], ◌∷◌, length, get_or, set, refl, ap, arith, if◌then◌else◌, ◌&&◌, ◌∙◌, map, replicate, true, false}
use mathlib.Core.Path.{fun_ext}
use Prim.Native.Nat.compare as compare
use Rattle.std.proofs.lemmas.List.{length-set, length-replicate, get_or_read}
use Rattle.std.proofs.lemmas.Grind.{common_steps}
use Rattle.disk_trait.specs.Past.{Image, with_sector, now_after}
use Rattle.disk_trait.specs.declared.event.Event.{Event}
use Rattle.disk_trait.specs.declared.event.Event.TheVariants.{Write, Flush}
use Rattle.disk_trait.specs.declared.mem_disk.MemDisk.{MemDisk}
use Rattle.disk_trait.specs.Absent.{absent_geometry}
use Rattle.std.specs.Option.{option_map_or}
use Rattle.std.specs.Prelude.{All, slice_get}
use Rattle.disk_trait.specs.MemDisks.{StartDisk, HasWholeSectors, WritesWholeSector, zero_disk, zero_sector, disk_at, sizes_of, geometries_of, image_of}

-- a disk with other bytes in one sector
abbrev pub changed : StartDisk → ℕ → List ℕ → StartDisk
changed disk sector bytes = record disk { sectors = set disk.sectors sector bytes }

-- disks with other bytes in one sector of one disk
abbrev pub with_changed : List StartDisk → ℕ → ℕ → List ℕ → List StartDisk
with_changed disks disk sector bytes = set disks disk (changed (disk_at disks disk) sector bytes)

size_at-changed : (disks : List StartDisk) (disk sector : ℕ) (bytes : List ℕ) (k : ℕ) → sizes_of (with_changed disks disk sector bytes) k ≡ sizes_of disks k
size_at-changed [] disk sector bytes k = refl
size_at-changed (x ∷ xs) zero sector bytes zero = length-set x.sectors sector bytes
size_at-changed (x ∷ xs) zero sector bytes (suc k) = refl
size_at-changed (x ∷ xs) (suc disk) sector bytes zero = refl
size_at-changed (x ∷ xs) (suc disk) sector bytes (suc k) = size_at-changed xs disk sector bytes k

pub sizes_of-changed : (disks : List StartDisk) (disk sector : ℕ) (bytes : List ℕ) → sizes_of (with_changed disks disk sector bytes) ≡ sizes_of disks
sizes_of-changed disks disk sector bytes = fun_ext (size_at-changed disks disk sector bytes)

geometry_at-changed : (disks : List StartDisk) (disk sector : ℕ) (bytes : List ℕ) (k : ℕ) → geometries_of (with_changed disks disk sector bytes) k ≡ geometries_of disks k
geometry_at-changed [] disk sector bytes k = refl
geometry_at-changed (x ∷ xs) zero sector bytes zero = refl
geometry_at-changed (x ∷ xs) zero sector bytes (suc k) = refl
geometry_at-changed (x ∷ xs) (suc disk) sector bytes zero = refl
geometry_at-changed (x ∷ xs) (suc disk) sector bytes (suc k) = geometry_at-changed xs disk sector bytes k

pub geometries_of-changed : (disks : List StartDisk) (disk sector : ℕ) (bytes : List ℕ) → geometries_of (with_changed disks disk sector bytes) ≡ geometries_of disks
geometries_of-changed disks disk sector bytes = fun_ext (geometry_at-changed disks disk sector bytes)

-- a list with one element changed, at any place
get_or-set_if : (sectors : List (List ℕ)) (sector : ℕ) (bytes : List ℕ) (other : ℕ) → sector < length sectors → get_or (set sectors sector bytes) other zero_sector ≡ (if sector == other then bytes else get_or sectors other zero_sector)
get_or-set_if sectors sector bytes other inside = grind (arith, common_steps)

sector_at-changed : (disks : List StartDisk) (disk sector : ℕ) (bytes : List ℕ) (d s : ℕ) → sector < sizes_of disks disk → image_of (with_changed disks disk sector bytes) d s ≡ with_sector (image_of disks) disk sector bytes d s
sector_at-changed [] disk sector bytes d s inside = grind arith
sector_at-changed (x ∷ xs) zero sector bytes zero s inside = get_or-set_if x.sectors sector bytes s inside
sector_at-changed (x ∷ xs) zero sector bytes (suc d) s inside = rw compare.zero-suc
sector_at-changed (x ∷ xs) (suc disk) sector bytes zero s inside = rw compare.suc-zero
sector_at-changed (x ∷ xs) (suc disk) sector bytes (suc d) s inside = rw compare.suc-suc (sector_at-changed xs disk sector bytes d s inside)

pub image_of-changed : (disks : List StartDisk) (disk sector : ℕ) (bytes : List ℕ) → sector < sizes_of disks disk → image_of (with_changed disks disk sector bytes) ≡ with_sector (image_of disks) disk sector bytes
image_of-changed disks disk sector bytes inside = fun_ext (λ d. fun_ext (λ s. sector_at-changed disks disk sector bytes d s inside))

-- a disk with a sector is there
is_there : (disks : List StartDisk) (disk sector : ℕ) → sector < sizes_of disks disk → disk < length disks
is_there [] disk sector inside = grind arith
is_there (x ∷ xs) zero sector inside = omega arith
is_there (x ∷ xs) (suc disk) sector inside = let rest : disk < length xs = is_there xs disk sector inside in omega arith

-- what a disk read and changed makes of all: the bytes of one sector are others, and no more
pub record Changes (before after : List StartDisk) (disk sector : ℕ) (bytes : List ℕ) : Type 0 where
  pub image : image_of after ≡ with_sector (image_of before) disk sector bytes
  pub sizes : sizes_of after ≡ sizes_of before
  pub geometries : geometries_of after ≡ geometries_of before

pub set-changes : (disks before : List StartDisk) (at disk part sector : ℕ) (bytes : List ℕ) (read new : StartDisk) → disks ≡ before → at ≡ disk → part ≡ sector → sector < sizes_of before disk → read ≡ get_or disks at read → new ≡ changed read part bytes → Changes before (set disks at new) disk sector bytes
set-changes disks before at disk part sector bytes read new same place piece inside was is =
    let there : disk < length before = is_there before disk sector inside in
    let here : read ≡ get_or before disk read = cc in
    let found : read ≡ disk_at before disk = get_or_read before disk read there here _ in
    let all : set disks at new ≡ with_changed before disk sector bytes = cc in
    rw all (record {
      image = image_of-changed before disk sector bytes inside;
      sizes = sizes_of-changed before disk sector bytes;
      geometries = geometries_of-changed before disk sector bytes;
    })

-- other bytes in one sector, as many, leave each sector whole
pub whole-with_sector : (image : Image) (disk sector : ℕ) (bytes : List ℕ) → HasWholeSectors image → length bytes ≡ 512 → HasWholeSectors (with_sector image disk sector bytes)
whole-with_sector image disk sector bytes whole new d s = elim (disk == d && sector == s) as (λ same. length (if same then bytes else image d s) ≡ 512) [ true ↦ new | false ↦ whole d s ]

-- what holds of all events holds of the older ones
pub older_whole : (event : Event) (older : List Event) → All WritesWholeSector (event ∷ older) → All WritesWholeSector older
older_whole event older all k d inside = all (suc k) d (omega arith)

-- and so do events that write whole sectors
pub whole-now_after : (image : Image) (events : List Event) → HasWholeSectors image → All WritesWholeSector events → HasWholeSectors (now_after image events)
whole-now_after image [] whole all = whole
whole-now_after image (Write disk sector bytes ∷ older) whole all =
    whole-with_sector (now_after image older) disk sector bytes (whole-now_after image older whole (older_whole _ older all)) (all 0 Flush (omega arith))
whole-now_after image (Flush ∷ older) whole all = whole-now_after image older whole (older_whole _ older all)

-- 512 zero bytes are as many
pub length-zero_sector : length zero_sector ≡ 512
unfolding zero_sector
length-zero_sector = length-replicate {A = ℕ} 512 0

zeros_at : (count sector : ℕ) → get_or (replicate count zero_sector) sector zero_sector ≡ zero_sector
zeros_at zero sector = refl
zeros_at (suc count) zero = refl
zeros_at (suc count) (suc sector) = zeros_at count sector

-- disks of zero bytes
pub image_of-zero : (disks : List MemDisk) (disk sector : ℕ) → image_of (map zero_disk disks) disk sector ≡ zero_sector
image_of-zero [] disk sector = refl
image_of-zero (x ∷ xs) zero sector = zeros_at x.sectors sector
image_of-zero (x ∷ xs) (suc disk) sector = image_of-zero xs disk sector

pub sizes_of-zero : (disks : List MemDisk) (disk : ℕ) → sizes_of (map zero_disk disks) disk ≡ option_map_or (λ asked. asked.sectors) (slice_get disks disk) 0
sizes_of-zero [] disk = refl
sizes_of-zero (x ∷ xs) zero = length-replicate x.sectors zero_sector
sizes_of-zero (x ∷ xs) (suc disk) = sizes_of-zero xs disk

pub geometries_of-zero : (disks : List MemDisk) (disk : ℕ) → geometries_of (map zero_disk disks) disk ≡ option_map_or (λ asked. asked.geometry) (slice_get disks disk) absent_geometry
geometries_of-zero [] disk = refl
geometries_of-zero (x ∷ xs) zero = refl
geometries_of-zero (x ∷ xs) (suc disk) = geometries_of-zero xs disk

pub whole-zero : (disks : List MemDisk) → HasWholeSectors (image_of (map zero_disk disks))
whole-zero disks d s = ap length (image_of-zero disks d s) ∙ length-zero_sector
