-- One zone or one inode of a Minix volume that changes, named or not, and no other; what growth and links need of that (a
-- rule of this project's own).
use Rattle.std.specs.Prelude.{◌≡◌, ◌≢◌, ◌≤◌, ◌<◌, ◌/◌, ◌%◌, ℕ, true, List, length, slice_set}
use Rattle.lilo_model.specs.MinixLayout.{Super, Inode, numbers_in_zone, reach, is_size}
use Rattle.lilo_model.specs.MinixParts.{Parts, Pointer, IsPointer, is_directory, blocks_for, number_in}
use Rattle.lilo_model.specs.MinixEntries.{entry_in, entries_per_block, places}
use Rattle.lilo_model.specs.MinixNames.{entry, pointer, Named, AllLead, AreDistinct}
use Rattle.minix_change_laws.specs.Beside.{IsInode, IsDataZone}
use Rattle.minix_change_laws.specs.Sees.{IsFresh}
use Rattle.minix_change_laws.specs.Only.{zone_of_entry}
use Rattle.minix_change_laws.specs.Grows.{Deeper, down, IsChain}

-- one zone has other bytes, and all else is as before
pub record ChangesZone (super : Super) (old new : Parts) (zone : ℕ) (bytes : List ℕ) : Type 0 where
  pub here : new.zone zone ≡ bytes
  pub others : (other : ℕ) → IsDataZone super other → other ≢ zone → new.zone other ≡ old.zone other
  pub nodes : (number : ℕ) → IsInode super number → new.node number ≡ old.node number
  pub marks : (number : ℕ) → IsInode super number → new.has_inode number ≡ old.has_inode number
  pub zone_marks : (other : ℕ) → IsDataZone super other → new.has_zone other ≡ old.has_zone other

-- one inode is another, and all else is as before
pub record ChangesNode (super : Super) (old new : Parts) (number : ℕ) (inode : Inode) : Type 0 where
  pub here : new.node number ≡ inode
  pub others : (other : ℕ) → IsInode super other → other ≢ number → new.node other ≡ old.node other
  pub zones : (zone : ℕ) → IsDataZone super zone → new.zone zone ≡ old.zone zone
  pub marks : (other : ℕ) → IsInode super other → new.has_inode other ≡ old.has_inode other
  pub zone_marks : (zone : ℕ) → IsDataZone super zone → new.has_zone zone ≡ old.has_zone zone

-- so many links are enough for the names of an inode; the root has none
abbrev pub AreEnough : Super → Parts → ℕ → ℕ → Type 0
AreEnough super parts number links =
    (paths : List (List (List ℕ))) → number ≢ 1 → AreDistinct paths → AllLead super parts number paths → length paths ≤ links

-- an inode with another size
abbrev pub with_size : Inode → ℕ → Inode
with_size inode size = record inode { size = size }

-- a directory may have a size: it is no smaller, an inode can name its blocks, and the places that come are free
pub record MaySize (super : Super) (parts : Parts) (directory size : ℕ) : Type 0 where
  pub named : Named super parts directory
  pub is : is_directory (parts.node directory) ≡ true
  pub sized : is_size super.kind size ≡ true
  pub room : places super.kind (parts.node directory).size ≤ places super.kind size
  pub reaches : blocks_for (parts.node directory).size ≤ reach super.kind → blocks_for size ≤ reach super.kind
  pub free : (place : ℕ) → places super.kind (parts.node directory).size ≤ place → place < places super.kind size
      → (entry super parts directory place).inode ≡ 0

-- other bytes in the zone with a place of a directory say the same of each place below its size
pub record MayFill (super : Super) (parts : Parts) (directory place : ℕ) (bytes : List ℕ) : Type 0 where
  pub named : Named super parts directory
  pub is : is_directory (parts.node directory) ≡ true
  pub some : zone_of_entry super parts directory place ≢ 0
  pub reached : blocks_for (parts.node directory).size ≤ reach super.kind
  pub near : place / entries_per_block super.kind < reach super.kind
  pub same : (other : ℕ) → other < places super.kind (parts.node directory).size → other / entries_per_block super.kind ≡ place / entries_per_block super.kind
      → entry_in super.kind bytes (other % entries_per_block super.kind) ≡ entry super parts directory other

-- a directory may get a zone at a pointer that leads to a hole, with those further down: it was unused, and is marked
pub record MayHook (super : Super) (parts : Parts) (directory : ℕ) (at : Pointer) (zone : ℕ) (more : List Deeper) : Type 0 where
  pub named : Named super parts directory
  pub is : is_directory (parts.node directory) ≡ true
  pub place : IsPointer super.kind (down at more)
  pub hole : pointer super parts directory at ≡ 0
  pub some : zone ≢ 0
  pub fresh : IsFresh super parts parts zone
  pub chain : IsChain super parts parts zone more

-- in the bytes of an indirect zone one number is another
pub record HasNumber (super : Super) (old new : List ℕ) (index number : ℕ) : Type 0 where
  pub here : number_in super.kind new index ≡ number
  pub others : (other : ℕ) → other < numbers_in_zone super.kind → other ≢ index → number_in super.kind new other ≡ number_in super.kind old other

-- an inode with another of its ten numbers, and another size
abbrev pub with_top : Inode → ℕ → ℕ → ℕ → Inode
with_top inode top zone size = record inode { zones = slice_set inode.zones top zone; size = size }
