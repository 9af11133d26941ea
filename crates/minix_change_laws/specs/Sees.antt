-- Parts of a Minix volume that are changed without a name seeing it (a rule of this project's own): links are raised, or
-- lowered to no fewer than the names, and directories get places and zones.
use Rattle.std.specs.Prelude.{◌≡◌, ◌≢◌, ◌≤◌, ◌<◌, ◌⊎◌, ℕ, true, false, List, length}
use Rattle.lilo_model.specs.Disks.{Image}
use Rattle.lilo_model.specs.MinixLayout.{Super, Inode, reach, is_size}
use Rattle.lilo_model.specs.MinixParts.{Parts, Volume, Pointer, is_directory, blocks_for, parts_of}
use Rattle.lilo_model.specs.MinixEntries.{places}
use Rattle.lilo_model.specs.MinixNames.{entry, Named, PointsTo, Refers, AllLead, AreDistinct, IsSound}

-- a data zone is marked, and no named inode referred to it
pub record IsFresh (super : Super) (old new : Parts) (zone : ℕ) : Type 0 where
  pub range : (super.first ≤ zone) × (zone < super.zones)
  pub marked : new.has_zone zone ≡ true
  pub unused : (number : ℕ) (at : Pointer) → Refers super old number at zone → ⊥

-- an inode with other links
abbrev pub with_links : Inode → ℕ → Inode
with_links inode links = record inode { links = links }

-- two inodes are the same but for their links
abbrev pub SameButLinks : Inode → Inode → Type 0
SameButLinks old new = new ≡ with_links old new.links

-- the inodes that have a name stay but for their links, which are enough; the zones that they refer to stay, and so do
-- their bitmap bits
pub record KeepsButLinks (super : Super) (old new : Parts) : Type 0 where
  pub nodes : (number : ℕ) → Named super old number → SameButLinks (old.node number) (new.node number)
  pub links : (number : ℕ) (paths : List (List (List ℕ))) → number ≢ 1 → AreDistinct paths
      → AllLead super old number paths → length paths ≤ (new.node number).links
  pub marks : (number : ℕ) → Named super old number → new.has_inode number ≡ old.has_inode number
  pub zones : (number : ℕ) (at : Pointer) (zone : ℕ) → Refers super old number at zone → new.zone zone ≡ old.zone zone
  pub zone_marks : (number : ℕ) (at : Pointer) (zone : ℕ) → Refers super old number at zone → new.has_zone zone ≡ old.has_zone zone

-- what has a name is seen as before
pub record Sees (super : Super) (old new : Parts) : Type 0 where
  -- a named inode is of the same mode and marked, has a right size and links enough for its names
  pub modes : (number : ℕ) → Named super old number → (new.node number).mode ≡ (old.node number).mode
  pub sizes : (number : ℕ) → Named super old number → is_size super.kind (new.node number).size ≡ true
  pub marks : (number : ℕ) → Named super old number → new.has_inode number ≡ true
  pub links : (number : ℕ) (paths : List (List (List ℕ))) → number ≢ 1 → AreDistinct paths
      → AllLead super old number paths → length paths ≤ (new.node number).links
  -- one that is no directory stays but for its links, and its zones stay
  pub files : (number : ℕ) → Named super old number → is_directory (old.node number) ≡ false → SameButLinks (old.node number) (new.node number)
  pub bytes : (number : ℕ) (at : Pointer) (zone : ℕ) → Refers super old number at zone → is_directory (old.node number) ≡ false → new.zone zone ≡ old.zone zone
  -- a directory has its entries, and past them none but free ones; an inode can name all its blocks where it could
  pub room : (directory : ℕ) → Named super old directory → is_directory (old.node directory) ≡ true
      → places super.kind (old.node directory).size ≤ places super.kind (new.node directory).size
  pub reaches : (directory : ℕ) → Named super old directory → is_directory (old.node directory) ≡ true
      → blocks_for (old.node directory).size ≤ reach super.kind
      → blocks_for (new.node directory).size ≤ reach super.kind
  pub entries : (directory place : ℕ) → Named super old directory → is_directory (old.node directory) ≡ true
      → place < places super.kind (old.node directory).size
      → entry super new directory place ≡ entry super old directory place
  pub free : (directory place : ℕ) → Named super old directory → is_directory (old.node directory) ≡ true
      → places super.kind (old.node directory).size ≤ place → place < places super.kind (new.node directory).size
      → (entry super new directory place).inode ≡ 0
  -- and its pointers, and some more to fresh zones, one each
  pub stays : (directory : ℕ) (at : Pointer) (zone : ℕ) → Refers super old directory at zone
      → is_directory (old.node directory) ≡ true → PointsTo super new directory at zone
  pub refers : (directory : ℕ) (at : Pointer) (zone : ℕ) → Named super old directory
      → is_directory (old.node directory) ≡ true → PointsTo super new directory at zone
      → PointsTo super old directory at zone ⊎ IsFresh super old new zone
  pub once : (number other : ℕ) (at there : Pointer) (zone : ℕ) → Named super old number → Named super old other
      → PointsTo super new number at zone → PointsTo super new other there zone → IsFresh super old new zone
      → (number ≡ other) × (at ≡ there)
  pub zone_marks : (number : ℕ) (at : Pointer) (zone : ℕ) → Refers super old number at zone → new.has_zone zone ≡ true

-- in an image the volume is sound, and what has a name in another is seen as there
pub record SeenAsIn (volume : Volume) (old image : Image) : Type 0 where
  pub sound : IsSound volume image
  pub sees : Sees volume.layout (parts_of volume old) (parts_of volume image)
