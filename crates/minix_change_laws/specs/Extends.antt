-- A directory of a Minix volume that gets places in zones that it has, or of which bytes past its entries change, and
-- nothing else that has a name (a rule of this project's own).
use Rattle.std.specs.Prelude.{◌≡◌, ◌≢◌, ◌≤◌, ◌<◌, ℕ, true, List, ◌∷◌}
use Rattle.lilo_model.specs.MinixLayout.{Super, reach, is_size}
use Rattle.lilo_model.specs.MinixParts.{Parts, Pointer, IsPointer, is_directory, blocks_for}
use Rattle.lilo_model.specs.MinixEntries.{places}
use Rattle.lilo_model.specs.MinixNames.{entry, Named, PointsTo, Refers}

-- its ten numbers and its indirect zones stay, and so do its entries; past them none comes but free ones
pub record Extends (super : Super) (old new : Parts) (directory : ℕ) : Type 0 where
  pub named : Named super old directory
  pub is : is_directory (old.node directory) ≡ true
  pub mode : (new.node directory).mode ≡ (old.node directory).mode
  pub links : (new.node directory).links ≡ (old.node directory).links
  pub numbers : (new.node directory).zones ≡ (old.node directory).zones
  pub sized : is_size super.kind (new.node directory).size ≡ true
  pub room : places super.kind (old.node directory).size ≤ places super.kind (new.node directory).size
  pub reaches : blocks_for (old.node directory).size ≤ reach super.kind → blocks_for (new.node directory).size ≤ reach super.kind
  pub entries : (place : ℕ) → place < places super.kind (old.node directory).size → entry super new directory place ≡ entry super old directory place
  pub free : (place : ℕ) → places super.kind (old.node directory).size ≤ place
      → place < places super.kind (new.node directory).size → (entry super new directory place).inode ≡ 0
  pub above : (top index : ℕ) (trail : List ℕ) (zone : ℕ)
      → IsPointer super.kind (record { top = top; trail = index ∷ trail })
      → PointsTo super old directory (record { top = top; trail = trail }) zone → new.zone zone ≡ old.zone zone
  -- all else
  pub nodes : (other : ℕ) → Named super old other → other ≢ directory → new.node other ≡ old.node other
  pub marks : (other : ℕ) → Named super old other → new.has_inode other ≡ old.has_inode other
  pub zones : (other : ℕ) (at : Pointer) (zone : ℕ) → Refers super old other at zone → other ≢ directory → new.zone zone ≡ old.zone zone
  pub zone_marks : (other : ℕ) (at : Pointer) (zone : ℕ) → Refers super old other at zone → new.has_zone zone ≡ old.has_zone zone
