-- The pointers of blocks.
use Rattle.std.specs.Prelude.{◌≡◌, ◌<◌, ℕ, ◌-◌, length}
use Rattle.lilo_model.specs.MinixLayout.{Kind, reach}
use Rattle.lilo_model.specs.MinixParts.{IsPointer, block_pointer}

-- each block has a pointer of an inode, which leads all the way down, and no two blocks have the same
pub record ArePointers (kind : Kind) : Type 0 where
  pub is : (index : ℕ) → IsPointer kind (block_pointer kind index)
  pub whole : (index : ℕ) → length (block_pointer kind index).trail ≡ (block_pointer kind index).top - 6
  pub apart : (index other : ℕ) → index < reach kind → other < reach kind → block_pointer kind index ≡ block_pointer kind other → index ≡ other

-- in both versions
abbrev pub PointerLaw : Type 0
PointerLaw = (kind : Kind) → ArePointers kind
