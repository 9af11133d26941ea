-- What may be done to the entries of a sound Minix volume may still be done after writes that no name sees.
use Rattle.std.specs.Prelude.{◌≡◌, ◌≤◌, ℕ, List}
use Rattle.lilo_model.specs.Disks.{Image}
use Rattle.lilo_model.specs.MinixParts.{Volume, parts_of}
use Rattle.minix_change_laws.specs.Beside.{NamedIn, IsUnnamed}
use Rattle.minix_change_laws.specs.Enter.{MayStand, MayEnter, MayRemove, MayRename, IsOnlyName}
use Rattle.minix_change_laws.specs.Written.{place_in, IsPlaced}

-- what is there, and may be done to entries, in an image is and may be in another
pub record StandsAsIn (volume : Volume) (old image : Image) : Type 0 where
  pub placed : (directory place : ℕ) → IsPlaced volume old directory place → IsPlaced volume image directory place
  pub place : (directory place : ℕ) → IsPlaced volume old directory place → place_in volume image directory place ≡ place_in volume old directory place
  pub enter : (outer : List (List ℕ)) (directory place : ℕ) (name : List ℕ) → IsPlaced volume old directory place
      → MayEnter volume.layout (parts_of volume old) outer directory place name
      → MayEnter volume.layout (parts_of volume image) outer directory place name
  pub remove : (outer : List (List ℕ)) (directory place number : ℕ) (name : List ℕ)
      → IsPlaced volume old directory place
      → MayRemove volume.layout (parts_of volume old) outer directory place number name
      → MayRemove volume.layout (parts_of volume image) outer directory place number name
  pub rename : (outer : List (List ℕ)) (directory place number : ℕ) (former name : List ℕ)
      → IsPlaced volume old directory place
      → MayRename volume.layout (parts_of volume old) outer directory place number former name
      → MayRename volume.layout (parts_of volume image) outer directory place number former name
  -- an inode that has a name already, where its links aren't fewer
  pub stands : (number : ℕ) → NamedIn volume old number
      → ((parts_of volume old).node number).links ≤ ((parts_of volume image).node number).links
      → MayStand volume.layout (parts_of volume old) number → MayStand volume.layout (parts_of volume image) number
  pub unnamed : (number : ℕ) → IsUnnamed volume old number → IsUnnamed volume image number
  pub only_name : (path : List (List ℕ)) (number : ℕ) → IsOnlyName volume.layout (parts_of volume old) path number
      → IsOnlyName volume.layout (parts_of volume image) path number
