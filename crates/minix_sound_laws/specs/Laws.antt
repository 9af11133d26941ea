-- A survey is Ok exactly where the volume is sound, and then what it met is what is on the volume.
use Rattle.std.specs.Prelude.{◌≡◌, ◌≢◌, ◌≤◌, ◌<◌, ◌-◌, ◌↔◌, ℕ, true, List, length, None, Some, Ok, slice_index}
use Rattle.lilo_model.specs.Disks.{Image}
use Rattle.lilo_model.specs.MinixLayout.{Super, is_v1, super_at, super_sector}
use Rattle.lilo_model.specs.MinixParts.{Parts, Pointer, Volume, sector_of, parts_of}
use Rattle.lilo_model.specs.MinixNames.{Refers, Sound}
use Rattle.lilo_model.specs.MinixSurvey.{Met, owner, names_of, is_indirect, survey}
use Rattle.minix_survey_laws.specs.Count.{HasNames}

-- ---- Ok and Sound

-- the survey of a volume is Ok exactly where it is sound
pub record IsOkWhereSound (super : Super) (parts : Parts) : Type 0 where
  pub sound : (met : List Met) → survey super parts ≡ Ok met → Sound super parts
  pub ok : Sound super parts → (met : List Met) × (survey super parts ≡ Ok met)

-- there are inodes, and in version 1 none of them has a tenth number
pub record HasNumbers (super : Super) (parts : Parts) : Type 0 where
  pub some : 1 ≤ super.inodes
  pub nine : is_v1 super.kind ≡ true → (number : ℕ) → slice_index (parts.node number).zones 9 ≡ 0

abbrev pub SoundLaw : Type 0
SoundLaw = (super : Super) (parts : Parts) → HasNumbers super parts → IsOkWhereSound super parts

-- the same of each volume in an image, by its superblock there
abbrev pub ImageLaw : Type 0
ImageLaw =
    (volume : Volume) (image : Image) → super_at (sector_of volume image super_sector) volume.span.count ≡ Ok volume.layout
    → IsOkWhereSound volume.layout (parts_of volume image)

-- ---- what was met

-- an inode that has a name refers to a zone of numbers of zones
pub record RefersIndirect (super : Super) (parts : Parts) (zone : ℕ) : Type 0 where
  pub number : ℕ
  pub at : Pointer
  pub refers : Refers super parts number at zone
  -- more numbers are found through it
  pub short : length at.trail < at.top - 6

-- what was met says who owns a zone, how many names an inode has, and which zones have numbers of zones
pub record SaysVolume (super : Super) (parts : Parts) (met : List Met) : Type 0 where
  pub owned : (zone inode : ℕ) → owner met zone ≡ Some inode → (at : Pointer) × Refers super parts inode at zone
  pub free : (zone : ℕ) → owner met zone ≡ None → (number : ℕ) (at : Pointer) → Refers super parts number at zone → ⊥
  -- the root has no name
  pub names : (inode : ℕ) → inode ≢ 1 → HasNames super parts inode (names_of met inode)
  pub indirect : (zone : ℕ) → (is_indirect met zone ≡ true) ↔ RefersIndirect super parts zone

abbrev pub MetLaw : Type 0
MetLaw =
    (super : Super) (parts : Parts) (met : List Met) → HasNumbers super parts → survey super parts ≡ Ok met
    → SaysVolume super parts met
