-- What a file that is made leaves of a volume's directories (a rule of this project's own).
use Rattle.std.specs.Prelude.{◌≡◌, ◌≢◌, ◌≤◌, ◌<◌, ◌⊎◌, ℕ, true}
use Rattle.lilo_model.specs.MinixEntries.{places}
use Rattle.lilo_model.specs.MinixLayout.{Super, reach}
use Rattle.lilo_model.specs.MinixNames.{entry, Named, PointsTo}
use Rattle.lilo_model.specs.MinixParts.{Parts, Pointer, is_directory, blocks_for}
use Rattle.minix_choice_laws.specs.Choice.{file_of}
use Rattle.minix_change_laws.specs.Only.{zone_of_entry}
use Rattle.minix_choice_laws.specs.Sources.{Source, zone_from}
use Rattle.minix_grow.specs.Others.{IsOneOf}
use Rattle.write_model.specs.Choice.{Choice}

-- A directory has no fewer places, an inode can name all its blocks where it could, and a place that was free is, or is past
-- the size: so it is of each place of each directory but for one.
pub record KeepsPlaces (super : Super) (old new : Parts) (directory place : ℕ) : Type 0 where
  pub room : (other : ℕ) → Named super old other → is_directory (old.node other) ≡ true
      → places super.kind (old.node other).size ≤ places super.kind (new.node other).size
  pub reaches : (other : ℕ) → Named super old other → is_directory (old.node other) ≡ true
      → blocks_for (old.node other).size ≤ reach super.kind → blocks_for (new.node other).size ≤ reach super.kind
  pub free : (other at : ℕ) → Named super old other → is_directory (old.node other) ≡ true → (other ≡ directory → at ≢ place)
      → (at < places super.kind (old.node other).size → (entry super old other at).inode ≡ 0)
      → at < places super.kind (new.node other).size → (entry super new other at).inode ≡ 0

-- A file was made of what was chosen for it: its place in the directory lies in a zone, and all other places are kept. What had
-- a name has no more pointers, but for those to zones of growth, and the file points to its own zones alone.
pub record HasMade (super : Super) (old new : Parts) (directory : ℕ) (choice : Choice) : Type 0 where
  pub lies : zone_of_entry super new directory choice.place ≢ 0
  pub keeps : KeepsPlaces super old new directory choice.place
  pub points : (number : ℕ) (at : Pointer) (zone : ℕ) → Named super old number → PointsTo super new number at zone
      → PointsTo super old number at zone ⊎ IsOneOf choice.growth zone
  pub own : (at : Pointer) (zone : ℕ) → PointsTo super new choice.inode at zone → (source : Source) × (zone_from (file_of choice) source ≡ zone)
