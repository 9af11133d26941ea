-- What an interrupted update may leave.
use Rattle.std.specs.Prelude.{◌≡◌, ◌≢◌, ◌⊎◌, ℕ, List, [], ◌∷◌, length, Contains}
use Rattle.disk_trait.specs.Past.{Image, with_sector}
use Rattle.disk_trait.specs.Range.{SameOutside, IsWritten}

-- an image as it was, or with the first change alone, or with both
abbrev pub IsOldFirstOrBoth : Image → ℕ → ℕ → List ℕ → ℕ → List ℕ → Image → Type 0
IsOldFirstOrBoth old disk a first b second c =
    (c ≡ old) ⊎ (c ≡ with_sector old disk a first) ⊎ (c ≡ with_sector (with_sector old disk a first) disk b second)

-- an image as it was, or with one sector changed
abbrev pub IsWithOrWithout : Image → ℕ → ℕ → List ℕ → Image → Type 0
IsWithOrWithout old disk sector bytes c = (c ≡ old) ⊎ (c ≡ with_sector old disk sector bytes)

-- what boots is that of before, or what is meant, and the same of the two whatever is typed
abbrev pub BootsAsBeforeOr : (Image → List ℕ → ℕ) → Image → (List ℕ → ℕ) → Image → Type 0
BootsAsBeforeOr boots before meant c = (boots c ≡ boots before) ⊎ (boots c ≡ meant)

-- an image with the same bytes in some sectors of a disk
abbrev pub filled : ℕ → List ℕ → List ℕ → Image → Image
filled disk [] bytes image = image
filled disk (sector ∷ places) bytes image = filled disk places bytes (with_sector image disk sector bytes)

-- a sector is none of some sectors of a disk
abbrev pub IsNoneOf : ℕ → List ℕ → ℕ → ℕ → Type 0
IsNoneOf disk places d s = (d ≢ disk) ⊎ ¬ Contains places s

-- what boots from an image doesn't depend on some neighbouring sectors
abbrev pub IsFreeOf : (Image → List ℕ → ℕ) → Image → ℕ → ℕ → ℕ → Type 0
IsFreeOf boots image disk start count = (c : Image) → SameOutside disk start count image c → boots c ≡ boots image

-- with these sectors written, and then this one, what boots is what is meant
abbrev pub BringsAbout : (Image → List ℕ → ℕ) → Image → ℕ → ℕ → List (List ℕ) → ℕ → List ℕ → (List ℕ → ℕ) → Type 0
BringsAbout boots image disk start sectors last bytes meant =
    (c : Image) → IsWritten disk start sectors (length sectors) image c → boots (with_sector c disk last bytes) ≡ meant
