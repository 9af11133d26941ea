-- The files that were named in one image are there still in another (rules of this project's own).
use Rattle.std.specs.Prelude.{◌≡◌, ◌≢◌, ℕ, List, Option, Some, None}
use Rattle.lilo_model.specs.Disks.{Image}
use Rattle.lilo_model.specs.MinixNames.{Thing, reached, IsSound}
use Rattle.lilo_model.specs.MinixParts.{Volume, parts_of}
use Rattle.minix_change_laws.specs.Beside.{NamedIn}
use Rattle.minix_change_laws.specs.Sees.{SeenAsIn}
use Rattle.minix_change_laws.specs.Tree.{KeepsNamed, HasTreeWith}

-- in an image the volume is sound, and each inode that was named in another one is so still, and stays
pub record KeepsFiles (volume : Volume) (before c : Image) : Type 0 where
  pub sound : IsSound volume c
  pub named : (number : ℕ) → NamedIn volume before number → NamedIn volume c number
  pub keeps : KeepsNamed volume.layout (parts_of volume before) (parts_of volume c)

-- so it is where one path changed that led nowhere, or where what has a name is seen as before; and after such changes in a
-- row
abbrev pub AddedKeepsLaw : Type 0
AddedKeepsLaw =
    (volume : Volume) (before c : Image) (path : List (List ℕ)) (found : Option ℕ) (what : Option Thing)
    → HasTreeWith volume before c path found what → reached volume.layout (parts_of volume before) path ≡ None
    → KeepsFiles volume before c

abbrev pub SeenKeepsLaw : Type 0
SeenKeepsLaw =
    (volume : Volume) (before c : Image) → IsSound volume before → SeenAsIn volume before c → KeepsFiles volume before c

abbrev pub KeepsJoinedLaw : Type 0
KeepsJoinedLaw =
    (volume : Volume) (before middle c : Image)
    → KeepsFiles volume before middle → KeepsFiles volume middle c → KeepsFiles volume before c

-- The same of what paths but one led to: what that one alone named may be gone, as where another file takes its place.
pub record KeepsFilesBut (volume : Volume) (but : List (List ℕ)) (before c : Image) : Type 0 where
  pub sound : IsSound volume c
  pub named : (name : List (List ℕ)) (number : ℕ) → name ≢ but → reached volume.layout (parts_of volume before) name ≡ Some number
      → NamedIn volume c number
  pub keeps : KeepsNamed volume.layout (parts_of volume before) (parts_of volume c)

-- where that path led nowhere, each stays; and so they do over a later change that keeps them, in which no inode that was gone has
-- a name again
abbrev pub KeepsAllLaw : Type 0
KeepsAllLaw =
    (volume : Volume) (but : List (List ℕ)) (before c : Image)
    → KeepsFilesBut volume but before c → reached volume.layout (parts_of volume before) but ≡ None → KeepsFiles volume before c

abbrev pub KeepsButJoinedLaw : Type 0
KeepsButJoinedLaw =
    (volume : Volume) (but : List (List ℕ)) (before middle c : Image)
    → KeepsFilesBut volume but before middle → KeepsFiles volume middle c
    → ((number : ℕ) → NamedIn volume before number → NamedIn volume c number → NamedIn volume middle number)
    → KeepsFilesBut volume but before c
