-- A change of what one directory of a Minix volume finds, as far as paths see it. A path is a list of
-- components, the last one first.
use Rattle.std.specs.Prelude.{◌≡◌, ◌≢◌, ◌<◌, ℕ, ◌⊎◌, true, false, List, ◌∷◌, Some, None}
use Rattle.lilo_model.specs.MinixLayout.{Super}
use Rattle.lilo_model.specs.MinixParts.{Parts, is_directory}
use Rattle.lilo_model.specs.MinixEntries.{named_inode, places, is_dots}
use Rattle.lilo_model.specs.MinixNames.{entry, lookup, reached, Named}

-- in the new parts a directory may have another entry at one place, and has its other entries as in the old ones
pub record ChangesEntry (super : Super) (old new : Parts) (directory place : ℕ) : Type 0 where
  pub named : Named super old directory
  pub is : is_directory (old.node directory) ≡ true
  pub below : place < places super.kind (old.node directory).size
  pub node : new.node directory ≡ old.node directory
  pub others : (other : ℕ) → other < places super.kind (old.node directory).size → other ≢ place
      → entry super new directory other ≡ entry super old directory other

-- what it finds then
pub record FindsBy (super : Super) (old new : Parts) (directory place : ℕ) : Type 0 where
  -- what it found, by each name of which the entry says what it said
  pub kept : (name : List ℕ)
      → named_inode name (entry super new directory place) ≡ named_inode name (entry super old directory place)
      → lookup super new name directory ≡ lookup super old name directory
  -- what the entry says, by a name that no other entry had
  pub changed : (name : List ℕ) → is_dots name ≡ false
      → (lookup super old name directory ≡ None) ⊎ (named_inode name (entry super old directory place) ≢ None)
      → lookup super new name directory ≡ named_inode name (entry super new directory place)

-- nothing is found below an inode
abbrev pub IsLeaf : Super → Parts → ℕ → Type 0
IsLeaf super parts number = (name : List ℕ) → lookup super parts name number ≡ None

-- nothing is found below what a directory finds by a name
abbrev pub FindsLeaf : Super → Parts → ℕ → List ℕ → Type 0
FindsLeaf super parts directory name = (number : ℕ) → lookup super parts name directory ≡ Some number → IsLeaf super parts number

-- in the new parts only the directory that a path leads to finds anything otherwise than in the old ones, and
-- by such a name it found and finds nothing with something below it
pub record ChangesIn (super : Super) (old new : Parts) (outer : List (List ℕ)) (directory : ℕ) : Type 0 where
  pub leads : reached super old outer ≡ Some directory
  pub is : is_directory (old.node directory) ≡ true
  pub elsewhere : (number : ℕ) (name : List ℕ) → Named super old number → number ≢ directory → lookup super new name number ≡ lookup super old name number
  pub here : (name : List ℕ)
      → (lookup super new name directory ≡ lookup super old name directory)
      ⊎ (FindsLeaf super old directory name × FindsLeaf super new directory name)

-- the paths of the directory's names lead to what it finds now, and each other path to where it led
pub record PathsFrom (super : Super) (old new : Parts) (outer : List (List ℕ)) (directory : ℕ) : Type 0 where
  pub here : (name : List ℕ) → reached super new (name ∷ outer) ≡ lookup super new name directory
  pub elsewhere : (path : List (List ℕ)) → ((name : List ℕ) → path ≢ name ∷ outer) → reached super new path ≡ reached super old path
