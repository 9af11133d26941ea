-- What an entry of a sound Minix volume may say before and after a change. A path is a list of components, the
-- last one first.
use Rattle.std.specs.Prelude.{◌≡◌, ◌≢◌, ◌<◌, ◌≤◌, ℕ, ◌⊎◌, true, false, List, ◌∷◌, length, Some, None}
use Rattle.lilo_model.specs.MinixLayout.{Super, is_size}
use Rattle.lilo_model.specs.MinixParts.{Parts, Pointer, is_directory}
use Rattle.lilo_model.specs.MinixEntries.{Entry, entry_with, named_inode, places, here_name, above_name, is_dots}
use Rattle.lilo_model.specs.MinixNames.{entry, lookup, reached, thing, Named, PointsTo, Refers, HasEntry, HasSomeEntry, AllLead, IsNew, AreDistinct}
use Rattle.lilo_model.specs.MinixNames.{depth_limit, Sound}
use Rattle.minix_change_laws.specs.Change.{IsLeaf, FindsBy, PathsFrom}
use Rattle.minix_change_laws.specs.Tree.{KeepsNamed}
use Rattle.minix_change_laws.specs.Only.{ChangesOnlyEntry, KeepsInode}

-- an inode, whether it has a name or not, and its zones are as a sound volume has them, and no other named inode
-- refers to one of its zones
pub record IsFit (super : Super) (parts : Parts) (number : ℕ) : Type 0 where
  pub range : (0 < number) × (number ≤ super.inodes)
  pub marked : parts.has_inode number ≡ true
  pub mode : (parts.node number).mode ≢ 0
  pub size : is_size super.kind (parts.node number).size ≡ true
  pub zone_range : (at : Pointer) (zone : ℕ) → PointsTo super parts number at zone → (super.first ≤ zone) × (zone < super.zones)
  pub zone_marked : (at : Pointer) (zone : ℕ) → PointsTo super parts number at zone → parts.has_zone zone ≡ true
  pub once : (at there : Pointer) (zone : ℕ) → PointsTo super parts number at zone → PointsTo super parts number there zone → at ≡ there
  pub apart : (other : ℕ) (at there : Pointer) (zone : ℕ) → PointsTo super parts number at zone → Refers super parts other there zone → number ≡ other

-- a directory without a name that may get one in another: its `.` and `..` are right, and nothing else is in it
pub record IsNewDirectory (super : Super) (parts : Parts) (outer : List (List ℕ)) (directory number : ℕ) : Type 0 where
  pub unnamed : Named super parts number → ⊥
  pub empty : IsLeaf super parts number
  pub no_twice : (place other inode inode' : ℕ) (name : List ℕ) → inode ≢ 0 → inode' ≢ 0
      → HasEntry super parts number place (entry_with inode name)
      → HasEntry super parts number other (entry_with inode' name) → place ≡ other
  pub here : HasSomeEntry super parts number (entry_with number here_name)
  pub above : HasSomeEntry super parts number (entry_with directory above_name)
  pub depth : length outer < depth_limit

-- a directory's first two entries are its `.` and `..`, and the others are free
pub record HasOnlyDots (super : Super) (parts : Parts) (directory number : ℕ) : Type 0 where
  pub two : 2 ≤ places super.kind (parts.node number).size
  pub first : entry super parts number 0 ≡ entry_with number here_name
  pub second : entry super parts number 1 ≡ entry_with directory above_name
  pub rest : (place : ℕ) → 2 ≤ place → place < places super.kind (parts.node number).size → (entry super parts number place).inode ≡ 0

-- what an entry says may go: it isn't `.` or `..`, and its inode no directory
pub record MayGo (parts : Parts) (what : Entry) : Type 0 where
  pub plain : is_dots what.name ≡ false
  pub file : is_directory (parts.node what.inode) ≡ false

-- at a place of a directory an entry may come: its name is neither `.` nor `..`, and none that another entry has;
-- its inode is fit for a name, it and its zones stay as they are, and its links are enough for its names
pub record MayCome (super : Super) (old new : Parts) (outer : List (List ℕ)) (directory place : ℕ) (what : Entry) : Type 0 where
  pub plain : is_dots what.name ≡ false
  pub alone : (lookup super old what.name directory ≡ None) ⊎ (named_inode what.name (entry super old directory place) ≢ None)
  pub fit : IsFit super old what.inode
  pub kept : KeepsInode super old new what.inode
  -- one more than its names, that of the entry that goes not counted
  pub links : (paths : List (List (List ℕ))) → AreDistinct paths → AllLead super old what.inode paths
      → ((entry super old directory place).inode ≢ 0 → IsNew ((entry super old directory place).name ∷ outer) paths)
      → length paths < (old.node what.inode).links
  pub fresh : is_directory (old.node what.inode) ≡ true → IsNewDirectory super old outer directory what.inode

-- one entry of the directory that a path leads to changes, and nothing else that has a name; an entry that isn't
-- free may go, and one that isn't free then may come
pub record MayChange (super : Super) (old new : Parts) (outer : List (List ℕ)) (directory place : ℕ) : Type 0 where
  pub only : ChangesOnlyEntry super old new directory place
  pub leads : reached super old outer ≡ Some directory
  pub goes : (entry super old directory place).inode ≢ 0 → MayGo old (entry super old directory place)
  pub comes : (entry super new directory place).inode ≢ 0 → MayCome super old new outer directory place (entry super new directory place)

-- the new parts are sound: the paths of the directory's names lead to what its entries say, each other path to
-- where it led, and what has a name is what it was
pub record SoundAfter (super : Super) (old new : Parts) (outer : List (List ℕ)) (directory place : ℕ) : Type 0 where
  pub sound : Sound super new
  pub finds : FindsBy super old new directory place
  pub paths : PathsFrom super old new outer directory
  pub things : (number : ℕ) → Named super old number → thing super new number ≡ thing super old number
  pub keeps : KeepsNamed super old new
