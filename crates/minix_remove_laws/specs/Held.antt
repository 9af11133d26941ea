-- A name that a directory of a sound Minix volume holds, and its inode once the name is gone (a rule of this project's
-- own). A path is a list of components, the last one first.
use Rattle.std.specs.Prelude.{◌≡◌, ◌≢◌, ◌≤◌, ◌<◌, ◌+◌, ◌||◌, ℕ, Bool, true, false, List, ◌∷◌, Option, Some, None}
use Rattle.lilo_model.specs.MinixEntries.{entry_with, places, is_dots}
use Rattle.lilo_model.specs.MinixLayout.{Super, Inode}
use Rattle.lilo_model.specs.MinixNames.{entry, first_named, lookup, reached, Named, PointsTo}
use Rattle.lilo_model.specs.MinixParts.{Parts, Pointer, is_directory, is_file, is_link}
use Rattle.minix_change_laws.specs.Beside.{IsDataZone}
use Rattle.minix_change_laws.specs.Enter.{MayRemove, IsLeft}
use Rattle.minix_change_laws.specs.Only.{zone_of_entry}
use Rattle.minix_change_laws.specs.Changes.{AreEnough}

-- the inode of the first entry of a name in a directory, `.` and `..` too
abbrev pub held_name : Super → Parts → ℕ → List ℕ → Option ℕ
held_name super parts directory name = first_named (entry super parts directory) name (places super.kind (parts.node directory).size)

-- a regular file or a symbolic link
abbrev pub is_removable : Inode → Bool
is_removable inode = is_file inode || is_link inode

-- a directory with a name has at a place below its size an entry of an inode
pub record HoldsEntry (super : Super) (parts : Parts) (directory place number : ℕ) (name : List ℕ) : Type 0 where
  pub named : Named super parts directory
  pub is : is_directory (parts.node directory) ≡ true
  pub below : place < places super.kind (parts.node directory).size
  pub says : entry super parts directory place ≡ entry_with number name
  pub some : number ≢ 0

-- of a file or a link
pub record HoldsName (super : Super) (parts : Parts) (directory place number : ℕ) (name : List ℕ) : Type 0 where
  pub entry : HoldsEntry super parts directory place number name
  pub removable : is_removable (parts.node number) ≡ true

-- then the name may go: it leads to the inode, which isn't the root, and its entry lies in a zone
pub record MayGoFrom (super : Super) (parts : Parts) (outer : List (List ℕ)) (directory place number : ℕ) (name : List ℕ) : Type 0 where
  pub may : MayRemove super parts outer directory place number name
  pub leads : reached super parts (name ∷ outer) ≡ Some number
  pub root : number ≢ 1
  pub lies : zone_of_entry super parts directory place ≢ 0

-- a name that a directory doesn't hold is neither `.` nor `..`, and is found nowhere in it
pub record IsAbsent (super : Super) (parts : Parts) (directory : ℕ) (name : List ℕ) : Type 0 where
  pub plain : is_dots name ≡ false
  pub absent : lookup super parts name directory ≡ None

-- Once the entry is free: the inode is as before, points where it pointed, and to data zones alone. One link less is enough
-- for the names that it has left; where it had but one link it has none left, and no named inode refers to its zones.
pub record IsReleased (super : Super) (old new : Parts) (number : ℕ) : Type 0 where
  pub is : new.node number ≡ old.node number
  pub enough : (links : ℕ) → (old.node number).links ≡ links + 1 → AreEnough super new number links
  pub left : (old.node number).links ≤ 1 → IsLeft super new number
  pub points : (at : Pointer) (zone : ℕ) → PointsTo super new number at zone → PointsTo super old number at zone
  pub stays : (at : Pointer) (zone : ℕ) → PointsTo super old number at zone → PointsTo super new number at zone
  pub range : (at : Pointer) (zone : ℕ) → PointsTo super new number at zone → IsDataZone super zone
