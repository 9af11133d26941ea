-- The blocks of a backup (this project's own).
use Rattle.std.specs.Prelude.{ℕ, List, [], ◌∷◌, ◌++◌, replicate}

-- the blocks of a boot sector's backup: one, with the sector and zeros after it
abbrev pub backup_blocks : List ℕ → List (List ℕ)
backup_blocks present = (present ++ replicate 512 0) ∷ []
