-- Neighbouring sectors of one disk: what they hold once they are written, and on the way there.
use Rattle.std.specs.Prelude.{◌≡◌, ◌≢◌, ◌⊎◌, ◌↔◌, ◌<◌, ◌≤◌, ℕ, ◌+◌, List, [], length, Option, Result, IsErrOf, slice_index_or}
use Rattle.disk_trait.specs.declared.disks.DiskFault.{DiskFault}
use Rattle.disk_trait.specs.declared.disks.DiskFault.TheVariants.{Failed, OutOfRange}
use Rattle.lilo_model.specs.Faults.{Rose}
use Rattle.disk_trait.specs.Past.{Image, Past}
use Rattle.disk_trait.specs.Moments.{MayLeave}

-- one of count neighbouring sectors isn't there
abbrev pub IsPastEnd : ℕ → ℕ → ℕ → Type 0
IsPastEnd size start count = (0 < count) × (size < start + count)

-- The cause of what a call on neighbouring sectors answered: as that of a call on one sector.
pub record HasRangeCause (size start count before now : ℕ) (result : Result (Unit {0}) DiskFault) : Type 0 where
  pub later : before ≤ now
  pub out_of_range : IsErrOf result OutOfRange ↔ IsPastEnd size start count
  pub uncounted : IsPastEnd size start count → now ≡ before
  pub failed : IsErrOf result Failed → Rose before now

-- a sector is none of count neighbouring ones
abbrev pub IsOutside : ℕ → ℕ → ℕ → ℕ → ℕ → Type 0
IsOutside disk start count d s = (d ≢ disk) ⊎ (s < start) ⊎ (start + count ≤ s)

-- two images differ in no sector but count neighbouring ones
abbrev pub SameOutside : ℕ → ℕ → ℕ → Image → Image → Type 0
SameOutside disk start count old new = (d s : ℕ) → IsOutside disk start count d s → new d s ≡ old d s

-- the first count of these sectors are in the new image from start on, and all else is as in the old one
pub record IsWritten (disk start : ℕ) (sectors : List (List ℕ)) (count : ℕ) (old new : Image) : Type 0 where
  pub inside : (i : ℕ) → i < count → new disk (start + i) ≡ slice_index_or sectors i []
  pub outside : SameOutside disk start count old new

-- some of these sectors are in the new image from start on, each whole or not at all, and all else is as in the old
pub record IsPartWritten (disk start : ℕ) (sectors : List (List ℕ)) (old new : Image) : Type 0 where
  pub inside : (i : ℕ) → i < length sectors → (new disk (start + i) ≡ slice_index_or sectors i []) ⊎ (new disk (start + i) ≡ old disk (start + i))
  pub outside : SameOutside disk start (length sectors) old new

-- an image that a stop might have left before, or that image with some of these neighbouring sectors written
abbrev pub LeftOrPartWritten : Option Past → ℕ → ℕ → List (List ℕ) → Image → Type 0
LeftOrPartWritten old disk start sectors c = (b : Image) × MayLeave old b × IsPartWritten disk start sectors b c
