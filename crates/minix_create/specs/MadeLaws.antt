-- What was chosen for a file is still free once another was made. A path is a list of components, the last one first.
use Rattle.std.specs.Prelude.{◌≡◌, ◌≢◌, ◌<◌, ◌/◌, ◌⊎◌, ℕ, List, ◌∷◌, Some, Option, length, slice_index}
use Rattle.lilo_model.specs.Disks.{Image}
use Rattle.lilo_model.specs.MinixEntries.{entries_per_block}
use Rattle.lilo_model.specs.MinixLayout.{Super}
use Rattle.lilo_model.specs.MinixNames.{Thing, Refers, Sound}
use Rattle.lilo_model.specs.MinixParts.{Parts, Volume, Pointer, parts_of}
use Rattle.minix_choice_laws.specs.Apart.{AreApart}
use Rattle.minix_choice_laws.specs.Choice.{MayHavePlace}
use Rattle.minix_change_laws.specs.Only.{ChangesOnlyEntry}
use Rattle.minix_grow.specs.Way.{number_above}
use Rattle.minix_change_laws.specs.Sees.{Sees}
use Rattle.minix_change_laws.specs.Tree.{TreeWith, HasTreeWith}
use Rattle.write_model.specs.Choice.{Choice}
use Rattle.minix_create.specs.Made.{KeepsPlaces, HasMade}

-- ---- places

-- what no name sees keeps them all
abbrev pub SeenPlacesLaw : Type 0
SeenPlacesLaw =
    (super : Super) (old new : Parts) (directory place : ℕ) → Sees super old new → KeepsPlaces super old new directory place

-- one entry that changes keeps all but its own
abbrev pub EntryPlacesLaw : Type 0
EntryPlacesLaw =
    (super : Super) (old new : Parts) (directory place : ℕ) → Sound super old → ChangesOnlyEntry super old new directory place
    → KeepsPlaces super old new directory place

-- and so it is of both in a row
abbrev pub JoinPlacesLaw : Type 0
JoinPlacesLaw =
    (super : Super) (old mid new : Parts) (directory place : ℕ) → Sees super old mid
    → KeepsPlaces super old mid directory place → KeepsPlaces super mid new directory place → KeepsPlaces super old new directory place

-- ---- another file

-- where a name may be made at a place, it still may once another was made elsewhere, be it in the same directory
abbrev pub OtherPlaceLaw : Type 0
OtherPlaceLaw =
    (volume : Volume) (old new : Image) (outer : List (List ℕ)) (directory place : ℕ) (name : List ℕ) (found : Option ℕ) (what : Option Thing)
    (there : List (List ℕ)) (other at : ℕ) (later : List ℕ)
    → HasTreeWith volume old new (name ∷ outer) found what → KeepsPlaces volume.layout (parts_of volume old) (parts_of volume new) directory place
    → MayHavePlace volume old outer directory place name → MayHavePlace volume old there other at later
    → (other ≡ directory → at ≢ place) → (other ≡ directory → later ≢ name)
    → MayHavePlace volume new there other at later

-- a zone by which a directory is to grow for a later choice is referred to by none but those that did, or the step of the way
-- for which it was chosen is there
abbrev pub OtherGrowthLaw : Type 0
OtherGrowthLaw =
    (super : Super) (old new : Parts) (path : List (List ℕ)) (what : Option Thing) (directory : ℕ) (one : Choice) (other : ℕ) (later : Choice)
    → TreeWith super old new path (Some one.inode) what → HasMade super old new directory one → AreApart super.kind directory one other later
    → (level : ℕ) → level < length later.growth → (number : ℕ) (at : Pointer) → Refers super new number at (slice_index later.growth level)
    → Refers super old number at (slice_index later.growth level)
    ⊎ (number_above super new other (later.place / entries_per_block super.kind) level ≢ 0)
