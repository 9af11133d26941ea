-- The bytes of a file, block by block.
use Rattle.std.specs.Prelude.{◌≡◌, ℕ, true, List, ◌++◌, Result, Ok}
use Rattle.lilo_model.specs.Checks.{◌>>=◌}
use Rattle.lilo_model.specs.MinixLayout.{Super, Inode}
use Rattle.lilo_model.specs.MinixParts.{Parts, ZoneFault, is_file, block_at}
use Rattle.lilo_model.specs.MinixFind.{find}

-- some bytes and those of a block
abbrev pub block_behind : Super → Parts → Inode → ℕ → List ℕ → Result (List ℕ) ZoneFault
block_behind super parts inode index before = block_at super parts inode index >>= λ block. Ok (before ++ block)

-- a path leads to a regular file
abbrev pub LeadsToFile : Super → Parts → List ℕ → Type 0
LeadsToFile super parts path = (inode : ℕ) × (find super parts path ≡ Ok inode) × (is_file (parts.node inode) ≡ true)
