-- The way to a block of a directory, from the block up: at level 0 is the block's own number, and each level more is
-- that of the indirect zone above (Minix file system, versions 1 and 2). What zones hold by which a way is completed is
-- this project's own.
use Rattle.std.specs.Prelude.{◌≡◌, ◌≢◌, ◌≤◌, ◌<◌, ℕ, zero, suc, ◌/◌, ◌%◌, ◌^◌, List, [], ◌∷◌, replicate, slice_index}
use Rattle.lilo_model.specs.Bytes.{with_part}
use Rattle.lilo_model.specs.MinixLayout.{Kind, Super, Inode, numbers_in_zone}
use Rattle.lilo_model.specs.MinixNames.{pointer}
use Rattle.lilo_model.specs.MinixParts.{Parts, Pointer, zone_at_pointer}
use Rattle.lilo_model.specs.MinixWalk.{branch_of, place_in_branch, stop_pointer}
use Rattle.minix_change_laws.specs.Grows.{Deeper}
use Rattle.minix_change_laws.specs.Sees.{IsFresh}
use Rattle.minix_change_laws.specs.Part.{number_bytes, offset_of_number}

-- ---- the numbers on the way

-- how many levels of indirect zones lead to a block
abbrev pub depth_of : Kind → ℕ → ℕ
depth_of kind block = (branch_of (numbers_in_zone kind) block).depth

-- the pointer so many levels above it
abbrev pub pointer_above : Kind → ℕ → ℕ → Pointer
pointer_above kind block level = stop_pointer (numbers_in_zone kind) (record { index = block; level = level })

-- at which index of the indirect zone above its number is
abbrev pub index_above : Kind → ℕ → ℕ → ℕ
index_above kind block level = place_in_branch (numbers_in_zone kind) block / numbers_in_zone kind ^ level % numbers_in_zone kind

-- that number, by an inode
abbrev pub number_on_way : Super → Parts → Inode → ℕ → ℕ → ℕ
number_on_way super parts node block level = zone_at_pointer super parts node (pointer_above super.kind block level)

-- and by the number of the inode
abbrev pub number_above : Super → Parts → ℕ → ℕ → ℕ → ℕ
number_above super parts directory block level = pointer super parts directory (pointer_above super.kind block level)

-- The way of an inode to a block is there down to a level: there it has the number of a zone, or it has none at all, and
-- below that there is a hole.
pub record ReachesDown (super : Super) (parts : Parts) (node : Inode) (block level zone : ℕ) : Type 0 where
  pub number : level ≤ depth_of super.kind block → number_on_way super parts node block level ≡ zone
  pub hole : (lower : ℕ) → level ≡ suc lower → number_on_way super parts node block lower ≡ 0

-- ---- zones by which the way is completed, the lowest first

-- those below the one of a level
abbrev pub zones_below : Kind → ℕ → List ℕ → ℕ → List Deeper
zones_below kind block growth zero = []
zones_below kind block growth (suc level) =
    record { index = index_above kind block level; zone = slice_index growth level } ∷ zones_below kind block growth level

-- what the one of a level holds: zeros, but for the number of the next one below
unfoldable pub grown_bytes : Kind → ℕ → List ℕ → ℕ → List ℕ
grown_bytes kind block growth zero = replicate 1024 0
grown_bytes kind block growth (suc level) =
    with_part (replicate 1024 0) (offset_of_number kind (index_above kind block level)) (number_bytes kind (slice_index growth level))

-- the lowest ones hold that, are apart, marked and unused
pub record AreGrown (super : Super) (parts : Parts) (block : ℕ) (growth : List ℕ) (count : ℕ) : Type 0 where
  pub some : (level : ℕ) → level < count → slice_index growth level ≢ 0
  pub apart : (level other : ℕ) → level < other → other < count → slice_index growth other ≢ slice_index growth level
  pub fresh : (level : ℕ) → level < count → IsFresh super parts parts (slice_index growth level)
  pub bytes : (level : ℕ) → level < count → parts.zone (slice_index growth level) ≡ grown_bytes super.kind block growth level
