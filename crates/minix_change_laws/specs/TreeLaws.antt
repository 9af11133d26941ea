-- What follows of the trees of Minix volumes, and how they join with changes that no name sees.
use Rattle.std.specs.Prelude.{◌≡◌, ◌⊎◌, ℕ, List, Option, Some}
use Rattle.lilo_model.specs.Disks.{Image}
use Rattle.lilo_model.specs.MinixLayout.{Super}
use Rattle.lilo_model.specs.MinixParts.{Parts, Volume}
use Rattle.lilo_model.specs.MinixNames.{Thing, Named, Sound, IsSound}
use Rattle.minix_change_laws.specs.Sees.{Sees, SeenAsIn}
use Rattle.minix_change_laws.specs.Tree.{KeepsNamed, TreeAs, TreeWith, TreeMoved, NamesWith, NamesMoved, HasTreeWith, HasTreeMoved, HasNamesWith, HasNamesMoved}

-- ---- parts

-- parts that are seen as before have the same tree
abbrev pub SeesTreeLaw : Type 0
SeesTreeLaw = (super : Super) (old new : Parts) → Sound super old → Sees super old new → TreeAs super old new

-- what stays in two changes in a row stays, where it had its name in between
abbrev pub KeepsJoinLaw : Type 0
KeepsJoinLaw =
    (super : Super) (old mid new : Parts) → KeepsNamed super old mid → KeepsNamed super mid new
    → ((number : ℕ) → Named super old number → Named super new number → Named super mid number)
    → KeepsNamed super old new

-- Names are those of the tree
abbrev pub TreeNamesLaw : Type 0
TreeNamesLaw =
    (super : Super) (old new : Parts) (path : List (List ℕ)) (found : Option ℕ) (what : Option Thing)
    → TreeWith super old new path found what → NamesWith super old new path what

abbrev pub MovedNamesLaw : Type 0
MovedNamesLaw =
    (super : Super) (old new : Parts) (former path : List (List ℕ))
    → TreeMoved super old new former path → NamesMoved super old new former path

-- an inode that has a name then had one, or is what the path leads to
abbrev pub TreeNamedLaw : Type 0
TreeNamedLaw =
    (super : Super) (old new : Parts) (path : List (List ℕ)) (found : Option ℕ) (what : Option Thing) (number : ℕ)
    → TreeWith super old new path found what → Named super new number
    → Named super old number ⊎ (found ≡ Some number)

-- ---- images

abbrev pub HasNamesLaw : Type 0
HasNamesLaw =
    (volume : Volume) (old image : Image) (path : List (List ℕ)) (found : Option ℕ) (what : Option Thing)
    → HasTreeWith volume old image path found what → HasNamesWith volume old image path what

abbrev pub HasMovedLaw : Type 0
HasMovedLaw =
    (volume : Volume) (old image : Image) (former path : List (List ℕ))
    → HasTreeMoved volume old image former path → HasNamesMoved volume old image former path

-- ---- what no name sees, before and after

-- a name that is made or goes after a change that no name sees makes the same of the image before it
abbrev pub TreeAfterLaw : Type 0
TreeAfterLaw =
    (volume : Volume) (old middle image : Image) (path : List (List ℕ)) (found : Option ℕ) (what : Option Thing)
    → SeenAsIn volume old middle → HasTreeWith volume middle image path found what
    → HasTreeWith volume old image path found what

-- and so does one before it
abbrev pub TreeBeforeLaw : Type 0
TreeBeforeLaw =
    (volume : Volume) (old middle image : Image) (path : List (List ℕ)) (found : Option ℕ) (what : Option Thing)
    → HasTreeWith volume old middle path found what → SeenAsIn volume middle image
    → HasTreeWith volume old image path found what

-- the same of a name that is changed
abbrev pub MovedTreeAfterLaw : Type 0
MovedTreeAfterLaw =
    (volume : Volume) (old middle image : Image) (former path : List (List ℕ))
    → SeenAsIn volume old middle → HasTreeMoved volume middle image former path
    → HasTreeMoved volume old image former path

abbrev pub MovedTreeBeforeLaw : Type 0
MovedTreeBeforeLaw =
    (volume : Volume) (old middle image : Image) (former path : List (List ℕ))
    → HasTreeMoved volume old middle former path → SeenAsIn volume middle image
    → HasTreeMoved volume old image former path

-- and of Names
abbrev pub WithAfterLaw : Type 0
WithAfterLaw =
    (volume : Volume) (old middle image : Image) (path : List (List ℕ)) (what : Option Thing)
    → IsSound volume old → SeenAsIn volume old middle → HasNamesWith volume middle image path what
    → HasNamesWith volume old image path what

abbrev pub WithBeforeLaw : Type 0
WithBeforeLaw =
    (volume : Volume) (old middle image : Image) (path : List (List ℕ)) (what : Option Thing)
    → HasNamesWith volume old middle path what → SeenAsIn volume middle image
    → HasNamesWith volume old image path what

abbrev pub MovedAfterLaw : Type 0
MovedAfterLaw =
    (volume : Volume) (old middle image : Image) (former path : List (List ℕ))
    → IsSound volume old → SeenAsIn volume old middle → HasNamesMoved volume middle image former path
    → HasNamesMoved volume old image former path

abbrev pub MovedBeforeLaw : Type 0
MovedBeforeLaw =
    (volume : Volume) (old middle image : Image) (former path : List (List ℕ))
    → HasNamesMoved volume old middle former path → SeenAsIn volume middle image
    → HasNamesMoved volume old image former path
