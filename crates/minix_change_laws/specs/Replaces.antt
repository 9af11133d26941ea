-- A name that another replaces in the same directory of a Minix volume, by two entries: in between both names lead to the
-- one inode (a rule of this project's own). A path is a list of components, the last one first.
use Rattle.std.specs.Prelude.{◌≢◌, ℕ, List, ◌∷◌, Some, None}
use Rattle.lilo_model.specs.MinixLayout.{Super}
use Rattle.lilo_model.specs.MinixParts.{Parts, Pointer}
use Rattle.lilo_model.specs.MinixEntries.{entry_with}
use Rattle.lilo_model.specs.MinixNames.{thing, Named, PointsTo, Refers}
use Rattle.minix_change_laws.specs.Tree.{TreeWith}
use Rattle.minix_change_laws.specs.Enter.{MayStand, MayRemove, Becomes, BecomesFree, IsOnlyName, HasLinkMore}

-- the entry of one name becomes that of another name's inode, which has a link left, and then the other name's entry
-- becomes free
pub record Replaces (super : Super) (old mid new : Parts) (outer : List (List ℕ))
    (directory to_place from_place former number : ℕ) (to from : List ℕ) : Type 0 where
  pub goes : MayRemove super old outer directory to_place former to
  pub moves : MayRemove super old outer directory from_place number from
  pub names : from ≢ to
  pub inodes : number ≢ former
  pub stands : MayStand super old number
  pub first : Becomes super old mid directory to_place (entry_with number to)
  pub second : BecomesFree super mid new directory from_place

pub record Replaced (super : Super) (old mid new : Parts) (outer : List (List ℕ)) (former number : ℕ) (to from : List ℕ) : Type 0 where
  pub both : TreeWith super old mid (to ∷ outer) (Some number) (Some (thing super old number))
  pub gone : TreeWith super mid new (from ∷ outer) None None
  -- the links of the inode that was moved may be lowered by one, and those of the former one
  pub lower : HasLinkMore super old new number
  pub former_lower : HasLinkMore super old new former
  -- where that had no other name it has none now, and no named inode refers to the zones that it had
  pub unnamed : IsOnlyName super old (to ∷ outer) former → Named super new former → ⊥
  pub unused : IsOnlyName super old (to ∷ outer) former → (at : Pointer) (zone : ℕ)
      → PointsTo super old former at zone → (other : ℕ) (there : Pointer) → Refers super new other there zone → ⊥
