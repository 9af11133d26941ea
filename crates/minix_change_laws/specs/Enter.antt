-- Names that are made, removed, led elsewhere and changed on a sound Minix volume, each by one entry. A path is a
-- list of components, the last one first.
use Rattle.std.specs.Prelude.{◌≡◌, ◌≢◌, ◌<◌, ◌≤◌, ℕ, true, false, List, length, Some, None}
use Rattle.lilo_model.specs.MinixLayout.{Super, is_size}
use Rattle.lilo_model.specs.MinixParts.{Parts, Pointer, is_directory}
use Rattle.lilo_model.specs.MinixEntries.{Entry, entry_with, is_dots}
use Rattle.lilo_model.specs.MinixNames.{entry, lookup, reached, Named, PointsTo, Refers, AllLead, AreDistinct}
use Rattle.minix_change_laws.specs.Only.{ChangesOnlyEntry}
use Rattle.minix_change_laws.specs.Comes.{IsFit, IsNewDirectory}

-- ---- an inode that may get a name

-- an inode has more links than names
abbrev pub HasLinkLeft : Super → Parts → ℕ → Type 0
HasLinkLeft super parts number =
    (paths : List (List (List ℕ))) → AreDistinct paths → AllLead super parts number paths → length paths < (parts.node number).links

-- an inode that is no directory, whether it has a name or not, may get one more
pub record MayStand (super : Super) (parts : Parts) (number : ℕ) : Type 0 where
  pub file : is_directory (parts.node number) ≡ false
  pub fit : IsFit super parts number
  pub links : HasLinkLeft super parts number

-- an inode without a name is no directory, and it and its zones are as a sound volume has them; no named inode refers
-- to these
pub record IsNewFile (super : Super) (parts : Parts) (number : ℕ) : Type 0 where
  pub unnamed : Named super parts number → ⊥
  pub file : is_directory (parts.node number) ≡ false
  pub range : (0 < number) × (number ≤ super.inodes)
  pub marked : parts.has_inode number ≡ true
  pub mode : (parts.node number).mode ≢ 0
  pub size : is_size super.kind (parts.node number).size ≡ true
  pub some_link : 0 < (parts.node number).links
  pub zone_range : (at : Pointer) (zone : ℕ) → PointsTo super parts number at zone → (super.first ≤ zone) × (zone < super.zones)
  pub zone_marked : (at : Pointer) (zone : ℕ) → PointsTo super parts number at zone → parts.has_zone zone ≡ true
  pub once : (at there : Pointer) (zone : ℕ) → PointsTo super parts number at zone → PointsTo super parts number there zone → at ≡ there
  pub unused : (at : Pointer) (zone : ℕ) → PointsTo super parts number at zone → (other : ℕ) (there : Pointer) → Refers super parts other there zone → ⊥

-- a directory without a name, and with nothing in it but `.` and `..`, may get its name in another
pub record DirectoryMayStand (super : Super) (parts : Parts) (outer : List (List ℕ)) (directory number : ℕ) : Type 0 where
  pub is : is_directory (parts.node number) ≡ true
  pub fit : IsFit super parts number
  pub some_link : 0 < (parts.node number).links
  pub fresh : IsNewDirectory super parts outer directory number

-- ---- an entry that may become another

-- a name may be made at a place of the directory that a path leads to: it isn't there yet, and the entry is free
pub record MayEnter (super : Super) (parts : Parts) (outer : List (List ℕ)) (directory place : ℕ) (name : List ℕ) : Type 0 where
  pub leads : reached super parts outer ≡ Some directory
  pub plain : is_dots name ≡ false
  pub absent : lookup super parts name directory ≡ None
  pub free : (entry super parts directory place).inode ≡ 0

-- the name that is there may go, since its inode is no directory
pub record MayRemove (super : Super) (parts : Parts) (outer : List (List ℕ)) (directory place number : ℕ) (name : List ℕ) : Type 0 where
  pub leads : reached super parts outer ≡ Some directory
  pub plain : is_dots name ≡ false
  pub some : number ≢ 0
  pub stands : entry super parts directory place ≡ entry_with number name
  pub file : is_directory (parts.node number) ≡ false

-- it may become another, which isn't there yet
pub record MayRename (super : Super) (parts : Parts) (outer : List (List ℕ)) (directory place number : ℕ) (former name : List ℕ) : Type 0 where
  pub may : MayRemove super parts outer directory place number former
  pub plain : is_dots name ≡ false
  pub absent : lookup super parts name directory ≡ None

-- ---- what it becomes

-- one entry of a directory changes, to what is said
pub record Becomes (super : Super) (old new : Parts) (directory place : ℕ) (what : Entry) : Type 0 where
  pub only : ChangesOnlyEntry super old new directory place
  pub says : entry super new directory place ≡ what

-- it becomes free
pub record BecomesFree (super : Super) (old new : Parts) (directory place : ℕ) : Type 0 where
  pub only : ChangesOnlyEntry super old new directory place
  pub free : (entry super new directory place).inode ≡ 0

-- ---- links that may be taken back

-- the inode had a link more than it has names in the new parts
abbrev pub HasLinkMore : Super → Parts → Parts → ℕ → Type 0
HasLinkMore super old new number =
    (paths : List (List (List ℕ))) → AreDistinct paths → AllLead super new number paths → length paths < (old.node number).links

-- ---- the last name

-- a path leads to an inode, and no other does
pub record IsOnlyName (super : Super) (parts : Parts) (path : List (List ℕ)) (number : ℕ) : Type 0 where
  pub leads : reached super parts path ≡ Some number
  pub only : (other : List (List ℕ)) → reached super parts other ≡ Some number → other ≡ path

-- an inode has no name, and no named inode refers to the zones that it has
pub record IsLeft (super : Super) (parts : Parts) (number : ℕ) : Type 0 where
  pub unnamed : Named super parts number → ⊥
  pub unused : (at : Pointer) (zone : ℕ) → PointsTo super parts number at zone → (other : ℕ) (there : Pointer) → Refers super parts other there zone → ⊥
