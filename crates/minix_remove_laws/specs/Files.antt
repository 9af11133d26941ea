-- The files of a Minix volume beside a directory whose zones get other bytes (a rule of this project's own).
use Rattle.std.specs.Prelude.{◌≡◌, ◌≢◌, ℕ}
use Rattle.lilo_model.specs.MinixLayout.{Super}
use Rattle.lilo_model.specs.MinixNames.{Named, PointsTo, Sound}
use Rattle.lilo_model.specs.MinixParts.{Parts, Pointer}
use Rattle.minix_change_laws.specs.Beside.{IsInode, IsDataZone}

-- no inode and no bit is another, and no bytes but those of the directory's zones
pub record KeepsFiles (super : Super) (old new : Parts) (directory : ℕ) : Type 0 where
  pub nodes : (number : ℕ) → IsInode super number → new.node number ≡ old.node number
  pub marks : (number : ℕ) → IsInode super number → new.has_inode number ≡ old.has_inode number
  pub zone_marks : (zone : ℕ) → IsDataZone super zone → new.has_zone zone ≡ old.has_zone zone
  pub bytes : (zone : ℕ) → IsDataZone super zone → ((at : Pointer) → PointsTo super old directory at zone → ⊥)
      → new.zone zone ≡ old.zone zone

-- an inode is as before, and points where it pointed
pub record KeepsFile (super : Super) (old new : Parts) (number : ℕ) : Type 0 where
  pub node : new.node number ≡ old.node number
  pub points : (at : Pointer) (zone : ℕ) → PointsTo super new number at zone → PointsTo super old number at zone
  pub stays : (at : Pointer) (zone : ℕ) → PointsTo super old number at zone → PointsTo super new number at zone

-- then each other inode with a name is and does so
abbrev pub KeptFilesLaw : Type 0
KeptFilesLaw =
    (super : Super) (old new : Parts) (directory number : ℕ)
    → Sound super old → Named super old directory → KeepsFiles super old new directory → Named super old number → number ≢ directory
    → KeepsFile super old new number
