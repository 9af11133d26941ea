-- Parts of a Minix volume that are changed without touching what has a name (a rule of this project's own).
use Rattle.std.specs.Prelude.{◌≡◌, ℕ, List}
use Rattle.lilo_model.specs.MinixLayout.{Super}
use Rattle.lilo_model.specs.MinixParts.{Parts, Pointer}
use Rattle.lilo_model.specs.MinixNames.{names, Named, Refers, Sound}

-- the inodes that have a name, and the zones that they refer to, are in the new parts as in the old ones, and so
-- are their bitmap bits
pub record Keeps (super : Super) (old new : Parts) : Type 0 where
  pub nodes : (number : ℕ) → Named super old number → new.node number ≡ old.node number
  pub marks : (number : ℕ) → Named super old number → new.has_inode number ≡ old.has_inode number
  pub zones : (number : ℕ) (at : Pointer) (zone : ℕ) → Refers super old number at zone → new.zone zone ≡ old.zone zone
  pub zone_marks : (number : ℕ) (at : Pointer) (zone : ℕ) → Refers super old number at zone → new.has_zone zone ≡ old.has_zone zone

-- parts are sound, with the same Names as others
pub record SoundAs (super : Super) (old new : Parts) : Type 0 where
  pub sound : Sound super new
  pub same : (path : List (List ℕ)) → names super new path ≡ names super old path
