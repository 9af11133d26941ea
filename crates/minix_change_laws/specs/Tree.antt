-- What the paths of a Minix volume lead to in other parts, and what becomes of the inodes (a rule of this project's own).
-- A path is a list of components, the last one first.
use Rattle.std.specs.Prelude.{◌≡◌, ◌≢◌, ◌⊎◌, ℕ, false, List, option_map, Option, None}
use Rattle.lilo_model.specs.Disks.{Image}
use Rattle.lilo_model.specs.MinixLayout.{Super}
use Rattle.lilo_model.specs.MinixParts.{Parts, Volume, Pointer, is_directory, parts_of}
use Rattle.lilo_model.specs.MinixNames.{Thing, reached, thing, names, names_in, Named, PointsTo, Refers, Sound, IsSound}
use Rattle.minix_change_laws.specs.Sees.{SameButLinks}

-- ---- inodes

-- none of the inodes that are named in both parts referred to a zone
abbrev pub IsSpare : Super → Parts → Parts → ℕ → Type 0
IsSpare super old new zone = (number : ℕ) (at : Pointer) → Refers super old number at zone → Named super new number → ⊥

-- an inode that is named in both parts is of the same mode; a file, a link or a device stays but for its links, and so do
-- its zones; a pointer stays, and one that comes is to a zone that was spare
pub record KeepsNamed (super : Super) (old new : Parts) : Type 0 where
  pub modes : (number : ℕ) → Named super old number → Named super new number → (new.node number).mode ≡ (old.node number).mode
  pub files : (number : ℕ) → Named super old number → Named super new number → is_directory (old.node number) ≡ false
      → SameButLinks (old.node number) (new.node number)
  pub bytes : (number : ℕ) (at : Pointer) (zone : ℕ) → Refers super old number at zone → Named super new number
      → is_directory (old.node number) ≡ false → new.zone zone ≡ old.zone zone
  pub stays : (number : ℕ) (at : Pointer) (zone : ℕ) → Refers super old number at zone → Named super new number → PointsTo super new number at zone
  pub refers : (number : ℕ) (at : Pointer) (zone : ℕ) → Named super old number → Refers super new number at zone
      → PointsTo super old number at zone ⊎ IsSpare super old new zone

-- ---- trees: which inode each path leads to

-- the new parts are sound, and each path leads where it led
pub record TreeAs (super : Super) (old new : Parts) : Type 0 where
  pub sound : Sound super new
  pub leads : (path : List (List ℕ)) → reached super new path ≡ reached super old path
  pub keeps : KeepsNamed super old new

-- but for one, which leads to an inode that is some thing, or nowhere
pub record TreeWith (super : Super) (old new : Parts) (path : List (List ℕ)) (found : Option ℕ) (what : Option Thing) : Type 0 where
  pub sound : Sound super new
  pub here : reached super new path ≡ found
  pub is : option_map (thing super new) found ≡ what
  pub others : (other : List (List ℕ)) → other ≢ path → reached super new other ≡ reached super old other
  pub keeps : KeepsNamed super old new

-- but for one that leads nowhere, and another, which leads where that one led
pub record TreeMoved (super : Super) (old new : Parts) (former path : List (List ℕ)) : Type 0 where
  pub sound : Sound super new
  pub gone : reached super new former ≡ None
  pub here : reached super new path ≡ reached super old former
  pub others : (other : List (List ℕ)) → other ≢ former → other ≢ path → reached super new other ≡ reached super old other
  pub keeps : KeepsNamed super old new

-- ---- Names

-- the new parts are sound, and their Names are those of the old ones but for what one path leads to
pub record NamesWith (super : Super) (old new : Parts) (path : List (List ℕ)) (what : Option Thing) : Type 0 where
  pub sound : Sound super new
  pub here : names super new path ≡ what
  pub others : (other : List (List ℕ)) → other ≢ path → names super new other ≡ names super old other

-- the new parts are sound, and their Names are those of the old ones, but that one path leads nowhere, and
-- another to what that one led to
pub record NamesMoved (super : Super) (old new : Parts) (former path : List (List ℕ)) : Type 0 where
  pub sound : Sound super new
  pub gone : names super new former ≡ None
  pub here : names super new path ≡ names super old former
  pub others : (other : List (List ℕ)) → other ≢ former → other ≢ path → names super new other ≡ names super old other

-- ---- images

-- in an image the volume is sound, and its tree is that in another but for what one path leads to
pub record HasTreeWith (volume : Volume) (old image : Image) (path : List (List ℕ)) (found : Option ℕ) (what : Option Thing) : Type 0 where
  pub sound : IsSound volume image
  pub tree : TreeWith volume.layout (parts_of volume old) (parts_of volume image) path found what

-- it is sound, and its tree is that in another, but that a path leads nowhere, and another where that one led
pub record HasTreeMoved (volume : Volume) (old image : Image) (former path : List (List ℕ)) : Type 0 where
  pub sound : IsSound volume image
  pub tree : TreeMoved volume.layout (parts_of volume old) (parts_of volume image) former path

-- in an image the volume is sound, and its Names are those in another but for what one path leads to
pub record HasNamesWith (volume : Volume) (old image : Image) (path : List (List ℕ)) (what : Option Thing) : Type 0 where
  pub sound : IsSound volume image
  pub here : names_in volume image path ≡ what
  pub others : (other : List (List ℕ)) → other ≢ path → names_in volume image other ≡ names_in volume old other

-- it is sound, and its Names are those in another, but that one path leads nowhere, and another to what that one
-- led to
pub record HasNamesMoved (volume : Volume) (old image : Image) (former path : List (List ℕ)) : Type 0 where
  pub sound : IsSound volume image
  pub gone : names_in volume image former ≡ None
  pub here : names_in volume image path ≡ names_in volume old former
  pub others : (other : List (List ℕ)) → other ≢ former → other ≢ path → names_in volume image other ≡ names_in volume old other
