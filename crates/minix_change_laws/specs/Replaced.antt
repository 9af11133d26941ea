-- A name that another replaces in the same directory of a Minix volume, by the bytes of two entries. A path is a list of
-- components, the last one first.
use Rattle.std.specs.Prelude.{◌≡◌, ◌≢◌, ℕ, List, ◌∷◌, Some, None}
use Rattle.lilo_model.specs.Disks.{Image}
use Rattle.lilo_model.specs.MinixParts.{Volume, Pointer, parts_of}
use Rattle.lilo_model.specs.MinixEntries.{entry_of, entry_with}
use Rattle.lilo_model.specs.MinixNames.{thing, Named, PointsTo, Refers}
use Rattle.minix_change_laws.specs.Tree.{HasTreeWith}
use Rattle.minix_change_laws.specs.Enter.{MayStand, MayRemove, IsOnlyName, HasLinkMore}
use Rattle.minix_change_laws.specs.Written.{IsPlaced, HasEntryBytes}

-- the bytes of one name's entry become those of another name's inode, which has a link left, and then those of the other
-- name's entry say that it is free
pub record ReplacesBytes (volume : Volume) (old mid new : Image) (outer : List (List ℕ))
    (directory to_place from_place former number : ℕ) (to from bytes free : List ℕ) : Type 0 where
  pub to_placed : IsPlaced volume old directory to_place
  pub from_placed : IsPlaced volume old directory from_place
  pub goes : MayRemove volume.layout (parts_of volume old) outer directory to_place former to
  pub moves : MayRemove volume.layout (parts_of volume old) outer directory from_place number from
  pub names : from ≢ to
  pub inodes : number ≢ former
  pub stands : MayStand volume.layout (parts_of volume old) number
  pub says : entry_of volume.layout.kind bytes ≡ entry_with number to
  pub first : HasEntryBytes volume old mid directory to_place bytes
  pub says_free : (entry_of volume.layout.kind free).inode ≡ 0
  pub second : HasEntryBytes volume mid new directory from_place free

-- in between both names lead to the one inode; then one does, the links may be lowered, and where the former inode had no
-- other name it has none, and the zones that it had are unused
pub record ReplacedIn (volume : Volume) (old mid new : Image) (outer : List (List ℕ)) (former number : ℕ) (to from : List ℕ) : Type 0 where
  pub both : HasTreeWith volume old mid (to ∷ outer) (Some number) (Some (thing volume.layout (parts_of volume old) number))
  pub gone : HasTreeWith volume mid new (from ∷ outer) None None
  pub lower : HasLinkMore volume.layout (parts_of volume old) (parts_of volume new) number
  pub former_lower : HasLinkMore volume.layout (parts_of volume old) (parts_of volume new) former
  pub unnamed : IsOnlyName volume.layout (parts_of volume old) (to ∷ outer) former → Named volume.layout (parts_of volume new) former → ⊥
  pub unused : IsOnlyName volume.layout (parts_of volume old) (to ∷ outer) former → (at : Pointer) (zone : ℕ)
      → PointsTo volume.layout (parts_of volume old) former at zone → (other : ℕ) (there : Pointer)
      → Refers volume.layout (parts_of volume new) other there zone → ⊥
