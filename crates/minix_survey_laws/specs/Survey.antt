-- What a survey of a Minix volume finds out: facts on the inodes that it has seen, each on one inode, on one or two
-- pointers, or on places of directories, and none on a path.
use Rattle.std.specs.Prelude.{◌≡◌, ◌≢◌, ◌<◌, ◌≤◌, ℕ, suc, Bool, true, false, List, [], ◌∷◌, length}
use Rattle.lilo_model.specs.MinixLayout.{Super, is_size}
use Rattle.lilo_model.specs.MinixParts.{Parts, Pointer, is_directory}
use Rattle.lilo_model.specs.MinixEntries.{entry_with, places, here_name, above_name, is_dots}
use Rattle.lilo_model.specs.MinixNames.{entry, PointsTo, HasSomeEntry, depth_limit}

-- ---- one inode, one zone

-- an inode is in range, marked, of some mode and of a size that is read
pub record IsGoodInode (super : Super) (parts : Parts) (number : ℕ) : Type 0 where
  pub some : 0 < number
  pub below : number ≤ super.inodes
  pub marked : parts.has_inode number ≡ true
  pub mode : (parts.node number).mode ≢ 0
  pub size : is_size super.kind (parts.node number).size ≡ true

-- a zone is a data zone, and marked
pub record IsGoodZone (super : Super) (parts : Parts) (zone : ℕ) : Type 0 where
  pub from : super.first ≤ zone
  pub below : zone < super.zones
  pub marked : parts.has_zone zone ≡ true

-- ---- one place of a directory

-- a directory was seen
pub record IsSeenDirectory (parts : Parts) (seen : ℕ → Bool) (directory : ℕ) : Type 0 where
  pub was : seen directory ≡ true
  pub is : is_directory (parts.node directory) ≡ true

-- at a place below a directory's size is an entry that isn't free
pub record IsTaken (super : Super) (parts : Parts) (directory place : ℕ) : Type 0 where
  pub below : place < places super.kind (parts.node directory).size
  pub some : (entry super parts directory place).inode ≢ 0

-- the entry there names an inode, by a name that is neither `.` nor `..`
pub record NamesIn (super : Super) (parts : Parts) (directory place inode : ℕ) : Type 0 where
  pub taken : IsTaken super parts directory place
  pub is : (entry super parts directory place).inode ≡ inode
  pub plain : is_dots (entry super parts directory place).name ≡ false

-- and the directory was seen
pub record NamesAt (super : Super) (parts : Parts) (seen : ℕ → Bool) (directory place inode : ℕ) : Type 0 where
  pub from : IsSeenDirectory parts seen directory
  pub by : NamesIn super parts directory place inode

-- ---- lists of places

-- a place of a directory
pub record EntryPlace : Type 0 where
  pub directory : ℕ
  pub place : ℕ

-- each of some places is as a predicate says
abbrev pub Each : (EntryPlace → Type 0) → List EntryPlace → Type 0
Each Is [] = Unit {0}
Each Is (at ∷ others) = Is at × Each Is others

-- a place isn't among some
abbrev pub IsNewPlace : EntryPlace → List EntryPlace → Type 0
IsNewPlace at [] = Unit {0}
IsNewPlace at (other ∷ others) = (at ≢ other) × IsNewPlace at others

-- no two of some places are the same
abbrev pub AreApart : List EntryPlace → Type 0
AreApart [] = Unit {0}
AreApart (at ∷ others) = IsNewPlace at others × AreApart others

-- at each of some places of directories that were seen an inode is named
abbrev pub AllName : Super → Parts → (ℕ → Bool) → ℕ → List EntryPlace → Type 0
AllName super parts seen inode all = Each (λ at. NamesAt super parts seen at.directory at.place inode) all

-- ---- the facts

-- what a survey finds of the inodes that it has seen, each directory with a level
pub record SurveyFacts (super : Super) (parts : Parts) (seen : ℕ → Bool) (level : ℕ → ℕ) : Type 0 where
  -- each inode is good
  pub inodes : (number : ℕ) → seen number ≡ true → IsGoodInode super parts number
  -- so is each zone that it refers to
  pub zones : (number : ℕ) (at : Pointer) (zone : ℕ) → seen number ≡ true → PointsTo super parts number at zone → IsGoodZone super parts zone
  -- and no other pointer refers to that
  pub once : (number other : ℕ) (at there : Pointer) (zone : ℕ) → seen number ≡ true → seen other ≡ true
      → PointsTo super parts number at zone → PointsTo super parts other there zone
      → (number ≡ other) × (at ≡ there)
  -- no name appears twice in a directory
  pub no_twice : (directory place other : ℕ) → IsSeenDirectory parts seen directory
      → IsTaken super parts directory place → IsTaken super parts directory other
      → (entry super parts directory place).name ≡ (entry super parts directory other).name → place ≡ other
  -- no entry names the root
  pub not_root : (directory place inode : ℕ) → NamesAt super parts seen directory place inode → inode ≢ 1
  -- a directory is named by one entry
  pub one_entry : (directory other place there inode : ℕ) → IsSeenDirectory parts seen inode
      → NamesAt super parts seen directory place inode → NamesAt super parts seen other there inode
      → (directory ≡ other) × (place ≡ there)
  -- `.` is there and right
  pub here : (directory : ℕ) → IsSeenDirectory parts seen directory → HasSomeEntry super parts directory (entry_with directory here_name)
  -- and `..`, in the root and in each directory that an entry names
  pub root_above : IsSeenDirectory parts seen 1 → HasSomeEntry super parts 1 (entry_with 1 above_name)
  pub above : (outer place directory : ℕ) → IsSeenDirectory parts seen directory
      → NamesAt super parts seen outer place directory
      → HasSomeEntry super parts directory (entry_with outer above_name)
  -- a directory's level is one more than that of the directory whose entry names it, and 0 at the root
  pub root_level : IsSeenDirectory parts seen 1 → level 1 ≡ 0
  pub next_level : (outer place directory : ℕ) → IsSeenDirectory parts seen directory
      → NamesAt super parts seen outer place directory → level directory ≡ suc (level outer)
  pub depth : (directory : ℕ) → IsSeenDirectory parts seen directory → level directory ≤ depth_limit
  -- at least as many links as entries that name an inode
  pub links : (number : ℕ) (all : List EntryPlace) → AreApart all → AllName super parts seen number all → length all ≤ (parts.node number).links

-- a survey is done: the facts hold, and nothing that is named is left to see
pub record Surveyed (super : Super) (parts : Parts) (seen : ℕ → Bool) (level : ℕ → ℕ) : Type 0 where
  pub root : IsSeenDirectory parts seen 1
  pub entries : (directory place inode : ℕ) → NamesAt super parts seen directory place inode → seen inode ≡ true
  pub facts : SurveyFacts super parts seen level

-- each inode that was seen is the root, or some entry names it
abbrev pub AreFound : Super → Parts → (ℕ → Bool) → Type 0
AreFound super parts seen =
    (number : ℕ) → seen number ≡ true → number ≢ 1 → (directory : ℕ) × (place : ℕ) × NamesAt super parts seen directory place number
