-- A directory of a Minix volume that gets a zone full of zeros where it had a hole, in its inode or in an indirect zone
-- that was there, by itself or below new indirect zones (a rule of this project's own).
use Rattle.std.specs.Prelude.{◌≡◌, ◌≢◌, ◌≤◌, ◌<◌, ℕ, true, List, [], ◌∷◌, replicate, slice_index}
use Rattle.lilo_model.specs.MinixLayout.{Super, numbers_in_zone, reach, is_size}
use Rattle.lilo_model.specs.MinixParts.{Parts, Pointer, IsPointer, is_directory, blocks_for, number_in}
use Rattle.lilo_model.specs.MinixEntries.{places}
use Rattle.lilo_model.specs.MinixNames.{entry, pointer, Named, PointsTo, Refers}
use Rattle.minix_change_laws.specs.Sees.{IsFresh}

abbrev pub pointer_at : ℕ → List ℕ → Pointer
pointer_at top trail = record { top = top; trail = trail }

-- the pointer by a number in the zone that another leads to
abbrev pub below : Pointer → ℕ → Pointer
below outer index = pointer_at outer.top (index ∷ outer.trail)

-- a number is in the zone to which a pointer leads
abbrev pub IsBelow : Pointer → Pointer → Type 0
IsBelow at outer = (index : ℕ) × (at ≡ below outer index)

-- The pointer of a directory, which led to a hole, leads to a zone that was unused. What that zone holds isn't said.
pub record Hooks (super : Super) (old new : Parts) (directory : ℕ) (at : Pointer) (zone : ℕ) : Type 0 where
  pub named : Named super old directory
  pub is : is_directory (old.node directory) ≡ true
  pub hole : pointer super old directory at ≡ 0
  pub some : zone ≢ 0
  pub fresh : IsFresh super old new zone
  -- the zone in which its number is, where that isn't the inode
  pub outer : (index : ℕ) (before : List ℕ) → at.trail ≡ (index ∷ before) → pointer super old directory (pointer_at at.top before) ≢ 0
  -- its inode
  pub mode : (new.node directory).mode ≡ (old.node directory).mode
  pub links : (new.node directory).links ≡ (old.node directory).links
  pub sized : is_size super.kind (new.node directory).size ≡ true
  pub room : places super.kind (old.node directory).size ≤ places super.kind (new.node directory).size
  pub reaches : blocks_for (old.node directory).size ≤ reach super.kind → blocks_for (new.node directory).size ≤ reach super.kind
  pub top : at.trail ≡ [] → slice_index (new.node directory).zones at.top ≡ zone
  pub tops : (top : ℕ) → pointer_at top [] ≢ at → slice_index (new.node directory).zones top ≡ slice_index (old.node directory).zones top
  -- numbers in its indirect zones
  pub number : (index : ℕ) (before : List ℕ) → at.trail ≡ (index ∷ before)
      → number_in super.kind (new.zone (pointer super old directory (pointer_at at.top before))) index ≡ zone
  pub numbers : (outer : Pointer) (y index : ℕ) → PointsTo super old directory outer y
      → IsPointer super.kind (below outer index) → below outer index ≢ at
      → number_in super.kind (new.zone y) index ≡ number_in super.kind (old.zone y) index
  -- all else
  pub nodes : (number : ℕ) → Named super old number → number ≢ directory → new.node number ≡ old.node number
  pub marks : (number : ℕ) → Named super old number → new.has_inode number ≡ old.has_inode number
  pub zones : (number : ℕ) (there : Pointer) (y : ℕ) → Refers super old number there y → ((number ≡ directory) → IsBelow at there → ⊥) → new.zone y ≡ old.zone y
  pub zone_marks : (number : ℕ) (there : Pointer) (y : ℕ) → Refers super old number there y → new.has_zone y ≡ old.has_zone y
  -- past its entries are only free ones
  pub free : (place : ℕ) → places super.kind (old.node directory).size ≤ place
      → place < places super.kind (new.node directory).size → (entry super old directory place).inode ≡ 0

-- a zone further down, and the index at which its number is in the zone above
pub record Deeper : Type 0 where
  pub index : ℕ
  pub zone : ℕ

-- the pointer of the last of them
abbrev pub down : Pointer → List Deeper → Pointer
down at [] = at
down at (next ∷ more) = down (below at next.index) more

-- a zone holds one number that isn't 0
pub record HoldsOnly (super : Super) (new : Parts) (zone : ℕ) (next : Deeper) : Type 0 where
  pub here : number_in super.kind (new.zone zone) next.index ≡ next.zone
  pub others : (index : ℕ) → index < numbers_in_zone super.kind → index ≢ next.index → number_in super.kind (new.zone zone) index ≡ 0

-- a zone is none of those further down
abbrev pub IsApart : ℕ → List Deeper → Type 0
IsApart zone [] = Unit {0}
IsApart zone (next ∷ more) = (zone ≢ next.zone) × IsApart zone more

-- from a zone on, each holds the number of the next one, which was unused, and the last is full of zeros
abbrev pub IsChain : Super → Parts → Parts → ℕ → List Deeper → Type 0
IsChain super old new zone [] = new.zone zone ≡ replicate 1024 0
IsChain super old new zone (next ∷ more) =
    HoldsOnly super new zone next × (next.zone ≢ 0) × IsFresh super old new next.zone × IsApart zone (next ∷ more) × IsChain super old new next.zone more

-- the directory gets zones, one below the other
pub record Grows (super : Super) (old new : Parts) (directory : ℕ) (at : Pointer) (zone : ℕ) (more : List Deeper) : Type 0 where
  pub place : IsPointer super.kind (down at more)
  pub hooks : Hooks super old new directory at zone
  pub chain : IsChain super old new zone more
