-- What is chosen for a new file of a volume.
use Rattle.std.specs.Prelude.{◌≡◌, ◌≤◌, ◌<◌, ℕ, List, true, false, Ok}
use Rattle.lilo_model.specs.Disks.{Image}
use Rattle.lilo_model.specs.MinixLayout.{Super, reach}
use Rattle.lilo_model.specs.MinixNames.{Named, Sound, IsSound}
use Rattle.lilo_model.specs.MinixParts.{Parts, Volume, is_directory, blocks_for}
use Rattle.minix_change_laws.specs.Sees.{SeenAsIn}
use Rattle.minix_choice_laws.specs.FillLaws.{MayBeFile}
use Rattle.write_model.specs.Choice.{Choice, choose}
use Rattle.write_model.specs.Places.{is_overlooked}
use Rattle.write_model.specs.Wish.{Wish, Taken}
use Rattle.minix_choice_laws.specs.Choice.{file_of, IsFreeChoice, IsFreeName, MayHavePlace, LiesThere, HasNamePlace}

-- it is free
abbrev pub ChoiceLaw : Type 0
ChoiceLaw =
    (super : Super) (parts : Parts) (taken : Taken) (wish : Wish) (choice : Choice)
    → 0 < super.first → choose super parts taken wish ≡ Ok choice → IsFreeChoice super parts taken wish choice

-- its zones may be a file's, where an inode can name its blocks
abbrev pub FileLaw : Type 0
FileLaw =
    (super : Super) (parts : Parts) (taken : Taken) (wish : Wish) (choice : Choice)
    → 0 < super.first → blocks_for wish.length ≤ reach super.kind → choose super parts taken wish ≡ Ok choice
    → MayBeFile super.kind (file_of choice)

-- on a sound volume its place may get the name, where this isn't overlooked in the directory
abbrev pub PlaceLaw : Type 0
PlaceLaw =
    (super : Super) (parts : Parts) (taken : Taken) (wish : Wish) (choice : Choice)
    → Sound super parts → Named super parts wish.directory → is_directory (parts.node wish.directory) ≡ true
    → is_overlooked taken.overlooked wish.directory wish.name ≡ false
    → choose super parts taken wish ≡ Ok choice → IsFreeName super parts wish choice

-- and it may get it still after what no name sees
abbrev pub PlaceStaysLaw : Type 0
PlaceStaysLaw =
    (volume : Volume) (old new : Image) (outer : List (List ℕ)) (directory place : ℕ) (name : List ℕ)
    → IsSound volume old → SeenAsIn volume old new
    → HasNamePlace volume old outer directory place name → HasNamePlace volume new outer directory place name

-- so it is of a place that the name may have
abbrev pub MayHaveStaysLaw : Type 0
MayHaveStaysLaw =
    (volume : Volume) (old new : Image) (outer : List (List ℕ)) (directory place : ℕ) (name : List ℕ)
    → IsSound volume old → SeenAsIn volume old new
    → MayHavePlace volume old outer directory place name → MayHavePlace volume new outer directory place name

-- once it lies there the name may be made
abbrev pub PlaceLiesLaw : Type 0
PlaceLiesLaw =
    (volume : Volume) (image : Image) (outer : List (List ℕ)) (directory place : ℕ) (name : List ℕ)
    → MayHavePlace volume image outer directory place name → LiesThere volume image directory place
    → HasNamePlace volume image outer directory place name
