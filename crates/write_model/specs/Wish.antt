-- What is asked for a new file of a Minix volume, what was promised to files before it, and why none can be made (this
-- project's own).
use Rattle.std.specs.Prelude.{ℕ, Bool, List}
use Rattle.lilo_model.specs.MinixFind.{TreeFault}

-- a new file, symbolic link or directory
pub record Wish : Type 0 where
  pub mode : ℕ
  -- its bytes
  pub length : ℕ
  -- the blocks that get no zone, and read as zeros
  pub holes : List ℕ
  pub time : ℕ
  -- the inode of the directory that it is to be in
  pub directory : ℕ
  pub name : List ℕ

-- a place in a directory that was promised, and the zones by which the directory grows so that it is there: that of
-- the place's own block first, then those of the indirect zones above it, the lowest first
pub record Promise : Type 0 where
  pub directory : ℕ
  pub place : ℕ
  pub growth : List ℕ

-- a name in a directory that doesn't count as there
pub record Overlooked : Type 0 where
  pub directory : ℕ
  pub name : List ℕ

-- what was promised to files that were chosen before, and what is kept out
pub record Taken : Type 0 where
  pub has_zone : ℕ → Bool
  pub has_inode : ℕ → Bool
  pub promises : List Promise
  pub overlooked : List Overlooked

-- why no file can be made
pub data Refusal : Type 0 where
  -- the name has more bytes than the volume's names
  NameTooLong : Refusal
  -- the directory has the name
  Exists : Refusal
  -- no inode is free
  NoInode : Refusal
  -- so many zones are needed, and fewer are free; or one is, and the directory can't grow
  NoSpace : (need found : ℕ) → Refusal
  -- a zone's number or an inode's size is refused, which on a sound volume none is
  Tree : TreeFault → Refusal
