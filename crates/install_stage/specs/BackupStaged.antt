-- What the staging of a boot sector's backup leaves, in an image (a rule of this project's own). A path is a list of components,
-- the last one first.
use Rattle.std.specs.Prelude.{◌≡◌, ◌≢◌, ◌⊎◌, ℕ, Bool, true, false, if◌then◌else◌, List, Some}
use Rattle.lilo_model.specs.Disks.{Image, Machine, Span}
use Rattle.lilo_model.specs.MinixFindNames.{Names}
use Rattle.lilo_model.specs.MinixNames.{File, names_in, reached, IsSound}
use Rattle.lilo_model.specs.MinixParts.{Volume, parts_of}
use Rattle.lilo_model.specs.NamePlaces.{with_name, with_tilde, without_name}
use Rattle.lilo_model.specs.Settled.{Held}
use Rattle.install_laws.specs.Writes.{IsApartSector}
use Rattle.install_settle.specs.Settles.{HasNames}
use Rattle.install_stage_laws.specs.ClearMap.{KeepsFilesBut}

-- ---- Names

-- where the file of a backup is made: under its name with `~`, where it is to take the place of another, else under its own
abbrev pub made_at : Bool → List (List ℕ) → List (List ℕ)
made_at forced path = if forced then with_tilde path else path

-- Names with the file there
abbrev pub with_made : Bool → List (List ℕ) → List ℕ → Names → Names
with_made forced path present old = with_name (made_at forced path) (Some (File present)) old

-- with the file at both names
abbrev pub with_both : List (List ℕ) → List ℕ → Names → Names
with_both path present old = with_name path (Some (File present)) (with_made true path present old)

-- with the backup, and nothing at its name with `~` where the file was made there
abbrev pub with_backup : Bool → List (List ℕ) → List ℕ → Names → Names
with_backup true path present old = without_name (with_tilde path) (with_name path (Some (File present)) old)
with_backup false path present old = with_name path (Some (File present)) old

-- an image has the Names of another one, or the file is there too where it is made, or, where it is to take the place of another,
-- at both names, or the backup alone is there
abbrev pub AreStaging : Volume → Image → Bool → List (List ℕ) → List ℕ → Image → Type 0
AreStaging volume old forced path present c =
    HasNames volume c (names_in volume old)
    ⊎ (HasNames volume c (with_made forced path present (names_in volume old))
    ⊎ (((forced ≡ true) × HasNames volume c (with_both path present (names_in volume old)))
    ⊎ ((forced ≡ true) × HasNames volume c (with_backup forced path present (names_in volume old)))))

-- ---- what stays

-- each other path leads where it led
abbrev pub KeepsBeside : Volume → Image → Bool → List (List ℕ) → Image → Type 0
KeepsBeside volume old forced path c =
    (name : List (List ℕ)) → name ≢ made_at forced path → name ≢ path
    → reached volume.layout (parts_of volume c) name ≡ reached volume.layout (parts_of volume old) name

-- each sector is as it was that isn't the volume's, or is of its block 0
abbrev pub KeepsApart : Volume → Image → Image → Type 0
KeepsApart volume old c = (d s : ℕ) → IsApartSector volume d s → c d s ≡ old d s

-- an image is Held where another one is, by a map whose names are others than the backup's, and whose boot sector is such a sector
abbrev pub KeepsHeld : Volume → Image → List (List ℕ) → Image → Type 0
KeepsHeld volume old path c =
    (machine : Machine) (boot : Span) (map : List (List ℕ)) → IsApartSector volume boot.disk boot.start → path ≢ map → path ≢ with_tilde map
    → Held old machine volume boot map → Held c machine volume boot map

-- ---- images

-- The volume is sound, its Names are those before, on the way or with the backup, and all else stays. What the backup's name alone
-- named may be gone.
pub record IsStaging (volume : Volume) (old : Image) (forced : Bool) (path : List (List ℕ)) (present : List ℕ) (c : Image) : Type 0 where
  pub sound : IsSound volume c
  pub names : AreStaging volume old forced path present c
  pub paths : KeepsBeside volume old forced path c
  pub files : KeepsFilesBut volume path old c
  pub apart : KeepsApart volume old c
  pub held : KeepsHeld volume old path c
