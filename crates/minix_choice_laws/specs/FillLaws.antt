-- What a file is whose inode and indirect zones have the numbers that were chosen for it.
use Rattle.std.specs.Prelude.{◌≡◌, ◌≢◌, ◌≤◌, ◌<◌, ◌+◌, ℕ, true, false, length, take, slice_index}
use Rattle.lilo_model.specs.MinixLayout.{Kind, Super, is_v1, is_size, numbers_in_zone, reach}
use Rattle.lilo_model.specs.MinixParts.{Parts, Pointer, IsPointer, is_directory, number_in, zone_bytes, blocks_for}
use Rattle.lilo_model.specs.MinixNames.{pointer, blocks, content, Named, Refers}
use Rattle.minix_change_laws.specs.Comes.{IsFit}
use Rattle.minix_change_laws.specs.Enter.{IsNewFile}
use Rattle.minix_choice_laws.specs.Sources.{Source, FileZones, zone_from, top_source, below_source, source_of}

-- zones may be those of a file of a kind
pub record MayBeFile (kind : Kind) (zones : FileZones) : Type 0 where
  -- an inode can name its blocks, and version 1 has no third level
  pub few : length zones.blocks ≤ reach kind
  pub few_indirect : length zones.indirect ≤ reach kind
  pub two_levels : is_v1 kind ≡ true → length zones.indirect ≤ 2 + numbers_in_zone kind
  -- below an indirect zone that isn't made all is a hole
  pub holes : (place index : ℕ) → index < numbers_in_zone kind → slice_index zones.indirect place ≡ 0
      → zone_from zones (below_source (numbers_in_zone kind) place index) ≡ 0
  -- none appears twice
  pub once : (one other : Source) → zone_from zones one ≡ zone_from zones other → zone_from zones one ≢ 0 → one ≡ other

-- an inode and its indirect zones have the numbers of these
pub record HasZones (super : Super) (parts : Parts) (number : ℕ) (zones : FileZones) : Type 0 where
  pub tops : (top : ℕ) → top < 10 → slice_index (parts.node number).zones top ≡ zone_from zones (top_source (numbers_in_zone super.kind) top)
  pub rows : (place index : ℕ) → slice_index zones.indirect place ≢ 0 → index < numbers_in_zone super.kind
      → number_in super.kind (parts.zone (slice_index zones.indirect place)) index
      ≡ zone_from zones (below_source (numbers_in_zone super.kind) place index)

-- then each pointer leads to the zone that was chosen for it
abbrev pub PointersLaw : Type 0
PointersLaw =
    (super : Super) (parts : Parts) (number : ℕ) (zones : FileZones) (at : Pointer)
    → MayBeFile super.kind zones → HasZones super parts number zones → IsPointer super.kind at
    → pointer super parts number at ≡ zone_from zones (source_of (numbers_in_zone super.kind) at)

-- and the content is that of the blocks' zones, zeros in holes, cut at the size
abbrev pub ContentLaw : Type 0
ContentLaw =
    (super : Super) (parts : Parts) (number : ℕ) (zones : FileZones)
    → MayBeFile super.kind zones → HasZones super parts number zones → blocks_for (parts.node number).size ≤ reach super.kind
    → content super parts number
    ≡ take (parts.node number).size (blocks (λ index. zone_bytes parts (slice_index zones.blocks index)) (blocks_for (parts.node number).size))

-- an inode without a name may get one, but for its zones
pub record IsNewInode (super : Super) (parts : Parts) (number : ℕ) : Type 0 where
  pub unnamed : Named super parts number → ⊥
  pub range : (0 < number) × (number ≤ super.inodes)
  pub marked : parts.has_inode number ≡ true
  pub mode : (parts.node number).mode ≢ 0
  pub size : is_size super.kind (parts.node number).size ≡ true
  pub some_link : 0 < (parts.node number).links

-- each of some zones is a data zone that is marked, and no named inode refers to it
pub record AreNewZones (super : Super) (parts : Parts) (zones : FileZones) : Type 0 where
  pub range : (source : Source) → zone_from zones source ≢ 0 → (super.first ≤ zone_from zones source) × (zone_from zones source < super.zones)
  pub marked : (source : Source) → zone_from zones source ≢ 0 → parts.has_zone (zone_from zones source) ≡ true
  pub unused : (source : Source) → zone_from zones source ≢ 0 → (other : ℕ) (there : Pointer) → Refers super parts other there (zone_from zones source) → ⊥

-- with such zones it is fit for a name, be it a file or a directory
abbrev pub FitFilledLaw : Type 0
FitFilledLaw =
    (super : Super) (parts : Parts) (number : ℕ) (zones : FileZones)
    → MayBeFile super.kind zones → HasZones super parts number zones → IsNewInode super parts number → AreNewZones super parts zones
    → IsFit super parts number

-- and a new file, where it is no directory
abbrev pub FilledLaw : Type 0
FilledLaw =
    (super : Super) (parts : Parts) (number : ℕ) (zones : FileZones)
    → MayBeFile super.kind zones → HasZones super parts number zones → IsNewInode super parts number → AreNewZones super parts zones
    → is_directory (parts.node number) ≡ false → IsNewFile super parts number
