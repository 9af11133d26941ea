-- The bitmap bits of a Minix volume and the inodes that are marked there, over a change (rules of this project's own).
use Rattle.std.specs.Prelude.{◌≡◌, ◌≤◌, ◌||◌, ℕ, Bool, true, false, IfSome, List}
use Rattle.lilo_model.specs.MinixLayout.{Super, Inode}
use Rattle.lilo_model.specs.MinixNames.{PointsTo, reached}
use Rattle.lilo_model.specs.MinixParts.{Parts, Pointer, is_directory}
use Rattle.minix_change_laws.specs.Beside.{IsInode, IsDataZone}
use Rattle.minix_change_laws.specs.Sees.{SameButLinks}

-- no bit of an inode or a data zone is set that was clear, and each inode whose bit is set is as it was, but for its links, which
-- are no more
pub record KeepsMarked (super : Super) (old new : Parts) : Type 0 where
  pub marks : (number : ℕ) → IsInode super number → new.has_inode number ≡ true → old.has_inode number ≡ true
  pub zone_marks : (zone : ℕ) → IsDataZone super zone → new.has_zone zone ≡ true → old.has_zone zone ≡ true
  pub nodes : (number : ℕ) → IsInode super number → new.has_inode number ≡ true → SameButLinks (old.node number) (new.node number)
  pub links : (number : ℕ) → IsInode super number → new.has_inode number ≡ true → (new.node number).links ≤ (old.node number).links

-- an inode has the mode, the owner and the times of another one
pub record IsOwnedAs (old new : Inode) : Type 0 where
  pub mode : new.mode ≡ old.mode
  pub user : new.uid ≡ old.uid
  pub group : new.gid ≡ old.gid
  pub times : new.times ≡ old.times

-- A bit that is set was set, or is that of some inodes that were made, or of some zones. Each other inode whose bit is set has the mode,
-- the owner and the times that it had; and where it is no directory it is as it was, but for its links, which are no more.
pub record KeepsMarkedBut (super : Super) (made zones : ℕ → Bool) (old new : Parts) : Type 0 where
  pub marks : (number : ℕ) → IsInode super number → new.has_inode number ≡ true → (old.has_inode number || made number) ≡ true
  pub zone_marks : (zone : ℕ) → IsDataZone super zone → new.has_zone zone ≡ true → (old.has_zone zone || zones zone) ≡ true
  pub owners : (number : ℕ) → IsInode super number → new.has_inode number ≡ true → made number ≡ false
      → IsOwnedAs (old.node number) (new.node number)
  pub files : (number : ℕ) → IsInode super number → new.has_inode number ≡ true → made number ≡ false
      → is_directory (old.node number) ≡ false
      → SameButLinks (old.node number) (new.node number) × ((new.node number).links ≤ (old.node number).links)

-- the bits of an inode, and of the zones to which it had pointers, are clear
pub record IsFreed (super : Super) (old : Parts) (number : ℕ) (new : Parts) : Type 0 where
  pub mark : new.has_inode number ≡ false
  pub zone_marks : (at : Pointer) (zone : ℕ) → PointsTo super old number at zone → new.has_zone zone ≡ false

-- so they are of what a path led to, where that had no other link
abbrev pub FreesAt : Super → Parts → List (List ℕ) → Parts → Type 0
FreesAt super old path new =
    IfSome (reached super old path) (λ former. (old.node former).links ≤ 1 → IsFreed super old former new)
