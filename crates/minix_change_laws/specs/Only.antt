-- A Minix volume of which one entry of one directory changes, and nothing else that has a name.
use Rattle.std.specs.Prelude.{◌≡◌, ◌≢◌, ℕ, ◌/◌}
use Rattle.lilo_model.specs.MinixLayout.{Super}
use Rattle.lilo_model.specs.MinixParts.{Parts, Pointer}
use Rattle.lilo_model.specs.MinixEntries.{entries_per_block}
use Rattle.lilo_model.specs.MinixNames.{zone_number, Named, PointsTo, Refers}
use Rattle.minix_change_laws.specs.Change.{ChangesEntry}

-- the zone with the block in which a directory has an entry
abbrev pub zone_of_entry : Super → Parts → ℕ → ℕ → ℕ
zone_of_entry super parts directory place =
    zone_number super parts directory (place / entries_per_block super.kind)

-- in the new parts one entry of a directory may be another; the inodes that have a name and the zones that they
-- refer to are as in the old ones, but for the bytes of the zone with that entry, and so are their bitmap bits
pub record ChangesOnlyEntry (super : Super) (old new : Parts) (directory place : ℕ) : Type 0 where
  pub change : ChangesEntry super old new directory place
  pub nodes : (number : ℕ) → Named super old number → new.node number ≡ old.node number
  pub marks : (number : ℕ) → Named super old number → new.has_inode number ≡ old.has_inode number
  pub zones : (number : ℕ) (at : Pointer) (zone : ℕ) → Refers super old number at zone
      → zone ≢ zone_of_entry super old directory place → new.zone zone ≡ old.zone zone
  pub zone_marks : (number : ℕ) (at : Pointer) (zone : ℕ) → Refers super old number at zone → new.has_zone zone ≡ old.has_zone zone

-- an inode, whether it has a name or not, its zones and their bitmap bits are in the new parts as in the old ones
pub record KeepsInode (super : Super) (old new : Parts) (number : ℕ) : Type 0 where
  pub node : new.node number ≡ old.node number
  pub mark : new.has_inode number ≡ old.has_inode number
  pub zones : (at : Pointer) (zone : ℕ) → PointsTo super old number at zone → new.zone zone ≡ old.zone zone
  pub zone_marks : (at : Pointer) (zone : ℕ) → PointsTo super old number at zone → new.has_zone zone ≡ old.has_zone zone
